-- The printed partial cubes of groups of sources, merged, are the printed cube of all sources.
use Rattle.std.proofs.Common.{◌≡◌, ℕ, ◌≤◌, ◌+◌, nat_lt, List, [], ◌∷◌, ◌++◌, length, map, if◌then◌else◌, suc, Some}
use Rattle.std.proofs.Common.{None, Result, Ok, Err, refl, sym, ap, ap₂, ◌∙◌, subst}
use Rattle.std.specs.List.{AllByRecursion, AllZip, cons_option}
use Rattle.std.specs.Option.{option_map_or}
use Rattle.std.proofs.lemmas.List.{map-append}
use Rattle.std.proofs.lemmas.Grind.{flat_map-append}
use Rattle.cube_core.specs.Items.{change_of}
use Rattle.cube_core.specs.FeedRecords.{RestOfFeed, item_then, FeedEnd, WrongHeader, TooManyRecords}
use Rattle.cube_core.specs.FeedRecords.{feed_records, found_columns, is_read, items_after, items_of, plain_of}
use Rattle.cube_core.specs.Layout.{Layout, IsSchema}
use Rattle.cube_core.specs.Life.{changes_of, taken_change}
use Rattle.cube_core.specs.PartialForm.{partial_form}
use Rattle.cube_core.specs.Printed.{IsPrinted}
use Rattle.cube_core.specs.Sources.{SurviveTogether, IsPrintedOf, items_of_sources}
use Rattle.cube_core.specs.Surviving.{AreSurviving, Survive}
use Rattle.cube_core.specs.Takes.{takes}
use Rattle.cube_core.specs.declared.change.Change.{Change}
use Rattle.cube_core.specs.declared.change.Change.TheVariants.{Insert, Update, Amend, Upsert, Delete, Remove}
use Rattle.cube_core.specs.declared.change.Item.{Item}
use Rattle.cube_core.specs.declared.change.LineFault.{LineFault}
use Rattle.cube_core.specs.declared.fact.Fact.{Fact}
use Rattle.cube_core.specs.declared.feed_columns.FoundColumns.{FoundColumns}
use Rattle.cube_core.specs.declared.feed_columns.FoundColumns.TheVariants.{InOrder, ByName}
use Rattle.cube_core.proofs.ListLaws.{AllZip-append}
use Rattle.cube_laws.specs.Merging.{joined, IsSchemaWithoutTexts, IsMergedText, PutsPrintedOf}
use Rattle.cube_merge.specs.Merging.{IsMergeOf}
use Rattle.cube_laws.specs.Told.{AreFewSources, CanBePrinted}
use Rattle.cube_laws.proofs.MergedTextLaws.{IsMergeOf-IsMergedText, IsMergedText-IsPrinted, IsMergedText-partial}
use Rattle.cube_laws.proofs.SurvivorRangeLaws.{SurviveTogether-CanBePrinted}

-- ---- the partial form of a schema reads what the schema reads
plain_of-partial : (s : Layout) (columns : FoundColumns) (number : ℕ) (fields : List (List ℕ))
    → plain_of (partial_form s) columns number fields ≡ plain_of s columns number fields
plain_of-partial s InOrder number fields = refl
plain_of-partial s (ByName places) number fields = refl

items_after-partial : (s : Layout) (columns : FoundColumns) (number : ℕ) (records : List (List (List ℕ)))
    → items_after (partial_form s) columns number records ≡ items_after s columns number records
items_after-partial s columns number [] = refl
items_after-partial s columns number (fields ∷ records) =
    let no_more : RestOfFeed FeedEnd = record { items = []; end = TooManyRecords } in
    ap₂ (λ (plain : List (List ℕ)) (rest : RestOfFeed FeedEnd). if nat_lt number s.max_records
    then (if is_read s plain then item_then (record { number = number + 1; what = change_of s plain }) rest else rest)
    else no_more)
    (plain_of-partial s columns (number + 1) fields) (items_after-partial s columns (number + 1) records)

items_of-partial : (s : Layout) (records : List (List (List ℕ)))
    → items_of (partial_form s) records ≡ items_of s records
items_of-partial s [] = refl
items_of-partial s (header ∷ records) =
    let wrong : RestOfFeed FeedEnd = record { items = []; end = WrongHeader } in
    ap (λ (after : FoundColumns → RestOfFeed FeedEnd). option_map_or after (found_columns s header) wrong)
    (λ i columns. items_after-partial s columns 0 records i)

-- and it takes the same changes
takes-partial : (s : Layout) (change : Change) → takes (partial_form s) change ≡ takes s change
takes-partial s (Insert id fact) = refl
takes-partial s (Update id fact) = refl
takes-partial s (Amend id part) = refl
takes-partial s (Upsert id fact) = refl
takes-partial s (Delete id) = refl
takes-partial s (Remove id) = refl

taken_change-partial : (s : Layout) (what : Result Change LineFault)
    → taken_change (partial_form s) what ≡ taken_change s what
taken_change-partial s (Ok change) = ap (λ taken. if taken then Some change else None) (takes-partial s change)
taken_change-partial s (Err fault) = refl

changes_of-partial : (s : Layout) (items : List Item) → changes_of (partial_form s) items ≡ changes_of s items
changes_of-partial s [] = refl
changes_of-partial s (item ∷ items) =
    ap₂ (λ change changes. cons_option change changes) (taken_change-partial s item.what) (changes_of-partial s items)

-- so the same facts survive
AreSurviving-partial : (s : Layout) (bytes : List ℕ) (facts : List Fact)
    → AreSurviving (partial_form s) (items_of (partial_form s) (feed_records s bytes)).items facts
    → AreSurviving s (items_of s (feed_records s bytes)).items facts
AreSurviving-partial s bytes facts survive =
    subst (λ (rest : RestOfFeed FeedEnd). Survive (changes_of s rest.items) facts)
    (items_of-partial s (feed_records s bytes))
    (subst (λ changes. Survive changes facts)
    (changes_of-partial s (items_of (partial_form s) (feed_records s bytes)).items) survive)

pub AllZip-partial : (s : Layout) (sources : List (List ℕ)) (parts : List (List Fact))
    → AllZip (AreSurviving (partial_form s)) (items_of_sources (partial_form s) sources) parts
    → AllZip (AreSurviving s) (items_of_sources s sources) parts
AllZip-partial s [] [] all = all
AllZip-partial s [] (part ∷ parts) all = all
AllZip-partial s (bytes ∷ sources) [] all = all
AllZip-partial s (bytes ∷ sources) (part ∷ parts) all =
    (AreSurviving-partial s bytes part all.0, AllZip-partial s sources parts all.1)

pub SurviveTogether-partial : (s : Layout) (sources : List (List ℕ)) (facts : List Fact)
    → SurviveTogether (partial_form s) (items_of_sources (partial_form s) sources) facts
    → SurviveTogether s (items_of_sources s sources) facts
SurviveTogether-partial s sources facts survive = record {
  parts = survive.parts;
  of_each = AllZip-partial s sources survive.parts survive.of_each;
  joined = survive.joined;
}

-- ---- groups of sources
-- the survivors of groups of sources, joined, are those of all sources
SurviveTogether-append : (s : Layout) (sources others : List (List ℕ)) (facts more : List Fact)
    → SurviveTogether s (items_of_sources s sources) facts
    → SurviveTogether s (items_of_sources s others) more
    → SurviveTogether s (items_of_sources s (sources ++ others)) (facts ++ more)
SurviveTogether-append s sources others facts more a b = record {
  parts = a.parts ++ b.parts;
  of_each = subst (λ feeds. AllZip (AreSurviving s) feeds (a.parts ++ b.parts))
      (sym (map-append (λ (bytes : List ℕ). (items_of s (feed_records s bytes)).items) sources others))
      (AllZip-append (AreSurviving s) (items_of_sources s sources)
      (items_of_sources s others) a.parts b.parts a.of_each b.of_each);
  joined = ap₂ (λ (xs ys : List Fact). xs ++ ys) a.joined b.joined
      ∙ sym (flat_map-append (λ (part : List Fact). part) a.parts b.parts);
}

-- what survives groups of sources, and is printed of each
record AreGroups (s : Layout) (groups : List (List (List ℕ))) (texts : List (List ℕ)) : Type 0 where
  parts : List (List Fact)
  printed : AllZip (IsPrinted (partial_form s)) parts texts
  printable : AllByRecursion (CanBePrinted s) parts
  survive : SurviveTogether s (items_of_sources s (joined groups)) (joined parts)
  survive_partial : SurviveTogether (partial_form s) (items_of_sources (partial_form s) (joined groups)) (joined parts)
  as_many : length parts ≡ length groups

AreGroups-none : (s : Layout) → AreGroups s [] []
AreGroups-none s = record {
  parts = [];
  printed = tt;
  printable = tt;
  survive = record { parts = []; of_each = tt; joined = refl };
  survive_partial = record { parts = []; of_each = tt; joined = refl };
  as_many = refl;
}

AreGroups-AllZip : (s : Layout) (groups : List (List (List ℕ))) (texts : List (List ℕ)) → IsSchema s
    → AllByRecursion AreFewSources groups
    → AllZip (IsPrintedOf (partial_form s)) groups texts → AreGroups s groups texts
AreGroups-AllZip s [] [] schema few all = AreGroups-none s
AreGroups-AllZip s [] (text ∷ texts) schema few all = absurd all
AreGroups-AllZip s (sources ∷ groups) [] schema few all = absurd all
AreGroups-AllZip s (sources ∷ groups) (text ∷ texts) schema few all =
    let rest = AreGroups-AllZip s groups texts schema few.1 all.1 in
    let facts = all.0.facts in
    let survive = SurviveTogether-partial s sources facts all.0.survive in
    record {
      parts = facts ∷ rest.parts;
      printed = (all.0.printed, rest.printed);
      printable = (SurviveTogether-CanBePrinted s sources schema few.0 facts survive, rest.printable);
      survive = SurviveTogether-append s sources (joined groups) facts (joined rest.parts) survive rest.survive;
      survive_partial = SurviveTogether-append (partial_form s) sources (joined groups) facts
          (joined rest.parts) all.0.survive rest.survive_partial;
      as_many = ap suc rest.as_many;
    }

-- merging the printed partial cubes of groups of sources is printing the cube of all sources
pub IsMergedText-IsPrintedOf : (s : Layout) (groups : List (List (List ℕ))) (texts : List (List ℕ)) (text : List ℕ)
    → IsSchemaWithoutTexts s → 1 ≤ length groups
    → AllByRecursion AreFewSources groups → AllZip (IsPrintedOf (partial_form s)) groups texts
    → IsMergedText (partial_form s) s texts text → IsPrintedOf s (joined groups) text
IsMergedText-IsPrintedOf s groups texts text schema some few all merged =
    let found = AreGroups-AllZip s groups texts schema.schema few all in
    record {
      facts = joined found.parts;
      survive = found.survive;
      printed = IsMergedText-IsPrinted s found.parts texts text schema
          (subst (λ n. 1 ≤ n) (sym found.as_many) some) found.printable found.printed merged;
    }

pub IsMergedText-IsPrintedOf_partial : (s : Layout) (groups : List (List (List ℕ))) (texts : List (List ℕ))
    (text : List ℕ) → IsSchemaWithoutTexts s → 1 ≤ length groups
    → AllByRecursion AreFewSources groups → AllZip (IsPrintedOf (partial_form s)) groups texts
    → IsMergedText (partial_form s) (partial_form s) texts text
    → IsPrintedOf (partial_form s) (joined groups) text
IsMergedText-IsPrintedOf_partial s groups texts text schema some few all merged =
    let found = AreGroups-AllZip s groups texts schema.schema few all in
    record {
      facts = joined found.parts;
      survive = found.survive_partial;
      printed = IsMergedText-partial s found.parts texts text schema
          (subst (λ n. 1 ≤ n) (sym found.as_many) some) found.printable found.printed merged;
    }

-- so a merge of the printed partial cubes of groups of sources writes the printed cube of all sources
pub IsMergeOf-PutsPrintedOf : (s : Layout) (groups : List (List (List ℕ))) (texts : List (List ℕ)) (old new : List ℕ)
    → IsSchemaWithoutTexts s → 1 ≤ length groups
    → AllByRecursion AreFewSources groups → AllZip (IsPrintedOf (partial_form s)) groups texts
    → IsMergeOf (partial_form s) s (map Some texts) (Some old) (Some new)
    → PutsPrintedOf s (joined groups) old new
IsMergeOf-PutsPrintedOf s groups texts old new schema some few all merge =
    let wrote = IsMergeOf-IsMergedText (partial_form s) s texts old new merge in
    (wrote.0, wrote.1, IsMergedText-IsPrintedOf s groups texts wrote.0 schema some few all wrote.2)

pub IsMergeOf-PutsPrintedOf_partial : (s : Layout) (groups : List (List (List ℕ))) (texts : List (List ℕ))
    (old new : List ℕ) → IsSchemaWithoutTexts s → 1 ≤ length groups
    → AllByRecursion AreFewSources groups → AllZip (IsPrintedOf (partial_form s)) groups texts
    → IsMergeOf (partial_form s) (partial_form s) (map Some texts) (Some old) (Some new)
    → PutsPrintedOf (partial_form s) (joined groups) old new
IsMergeOf-PutsPrintedOf_partial s groups texts old new schema some few all merge =
    let wrote = IsMergeOf-IsMergedText (partial_form s) (partial_form s) texts old new merge in
    (wrote.0, wrote.1, IsMergedText-IsPrintedOf_partial s groups texts wrote.0 schema some few all wrote.2)
