-- For each schema there is a document that writes it.
use Rattle.std.proofs.Common.{◌≡◌, ℕ, zero, suc, pos, ◌+◌, ◌*◌, ◌^◌, ◌<◌, ◌≤◌, true, false, not, List, [], ◌∷◌, length}
use Rattle.std.proofs.Common.{get_or, Some, None, option_map, option_and_then, unwrap_or, codes, ◌⊎◌, refl, sym, ap}
use Rattle.std.proofs.Common.{◌∙◌, subst, inl, inr, arith, zero-add}
use Rattle.std.specs.Prelude.{All, if◌then◌else◌}
use Rattle.std.specs.Str.{bytes_eq}
use Rattle.std.specs.List.{AllByRecursion, list_all}
use Rattle.std.specs.List.Sorted.{IsStrictlyIncreasing}
use Rattle.std.proofs.Math.Nat.{pow-succ'}
use Rattle.std.proofs.lemmas.Bool.{and_parts, and_from, or_right, not-true, false_from_ne_true, false≢true, le-leb}
use Rattle.std.proofs.lemmas.Bool.{lt-ltb}
use Rattle.std.proofs.lemmas.List.Elements.{recursion_from_All}
use Rattle.std.proofs.lemmas.Slice.Eq.{bytes_eq-Decides}
use Rattle.toml.specs.Data.{string, integer, array, Items, no_items, item, Members, no_members, member}
use Rattle.cube_core.specs.Layout.{Layout, IsSchema, is_listed, are_distinct, number_of_dimensions}
use Rattle.cube_core.specs.TextPlaces.{at_places, beside_places}
use Rattle.cube_core.proofs.TextPlaceLaws.{at_places-none, beside_places-none}
use Rattle.std.proofs.lemmas.List.{drop_all, take_all}
use Rattle.cube_core.specs.FeedDocument.{texts_of}
use Rattle.cube_core.specs.SchemaDocument.{mask_of_names, set_of_names, set_of_item, sets_of_items}
use Rattle.cube_core.specs.SchemaDocument.{are_distinct_sets, are_lawful_sets, named_sets, kept_sets, sets_of_grouping}
use Rattle.cube_core.proofs.TextSchemaLaws.{number_of_dimensions-none}
use Rattle.cube_laws.specs.Written.{WritesSchema}
use Rattle.cube_laws.proofs.GroupingLaws.{mask_of_names-other, are_distinct-front, Rise, is_among-Rise, filter-Rise}

-- texts as the items of an array
abbrev items_of_texts : List (List ℕ) → Items
items_of_texts [] = no_items
items_of_texts (text ∷ texts) = item (string text) (items_of_texts texts)

texts_of-items_of_texts : (texts : List (List ℕ)) → texts_of (items_of_texts texts) ≡ Some texts
texts_of-items_of_texts [] = refl
texts_of-items_of_texts (text ∷ texts) =
    ap (option_map (λ (rest : List (List ℕ)). text ∷ rest)) (texts_of-items_of_texts texts)

-- a number is even or odd
even-odd : (n : ℕ) → (half : ℕ) × ((n ≡ 2 * half) ⊎ (n ≡ 1 + 2 * half))
even-odd zero = (0, inl refl)
even-odd (suc n) =
    let half = even-odd n in
    elim half.1 [
      | inl even ↦ (half.0, inr (omega (arith, even)))
      | inr odd ↦ (half.0 + 1, inl (omega (arith, odd)))
    ]

-- each of the names is one of the dimensions
abbrev AreListed : List (List ℕ) → List (List ℕ) → Type 0
AreListed dimensions names = list_all (λ name. is_listed name dimensions) names ≡ true

-- what isn't a dimension is none of the names
is_listed-AreListed : (dimension : List ℕ) (dimensions names : List (List ℕ)) → AreListed dimensions names
    → is_listed dimension dimensions ≡ false
    → is_listed dimension names ≡ false
is_listed-AreListed dimension dimensions [] listed other = refl
is_listed-AreListed dimension dimensions (name ∷ names) listed other =
    let (here, after) =
    and_parts (is_listed name dimensions) (list_all (λ name. is_listed name dimensions) names) listed in
    let differs : bytes_eq dimension name ≡ false = false_from_ne_true _ (λ same.
    false≢true
    (sym other
    ∙ subst (λ text. is_listed text dimensions ≡ true) (sym ((bytes_eq-Decides dimension name).0 same)) here)) in
    rw differs (is_listed-AreListed dimension dimensions names after other)

-- the names of dimensions are those of dimensions with one more
AreListed-cons : (dimension : List ℕ) (dimensions names : List (List ℕ)) → AreListed dimensions names
    → AreListed (dimension ∷ dimensions) names
AreListed-cons dimension dimensions [] listed = refl
AreListed-cons dimension dimensions (name ∷ names) listed =
    let (here, after) =
    and_parts (is_listed name dimensions) (list_all (λ name. is_listed name dimensions) names) listed in
    and_from _ _ (or_right (bytes_eq name dimension) (is_listed name dimensions) here)
    (AreListed-cons dimension dimensions names after)

-- these names are the set with this mask
record Names (dimensions : List (List ℕ)) (set : ℕ) (names : List (List ℕ)) : Type 0 where
  mask : mask_of_names dimensions names ≡ set
  listed : AreListed dimensions names
  distinct : are_distinct names ≡ true

-- a set without the first dimension, and one with it
Names-without : (dimension : List ℕ) (dimensions : List (List ℕ)) (half : ℕ) (names : List (List ℕ))
    → is_listed dimension dimensions ≡ false
    → Names dimensions half names → Names (dimension ∷ dimensions) (2 * half) names
Names-without dimension dimensions half names other is = record {
  mask = rw (is_listed-AreListed dimension dimensions names is.listed other, is.mask) (zero-add (2 * half));
  listed = AreListed-cons dimension dimensions names is.listed;
  distinct = is.distinct;
}

Names-with : (dimension : List ℕ) (dimensions : List (List ℕ)) (half : ℕ) (names : List (List ℕ))
    → is_listed dimension dimensions ≡ false
    → Names dimensions half names → Names (dimension ∷ dimensions) (1 + 2 * half) (dimension ∷ names)
Names-with dimension dimensions half names other is =
    let itself : bytes_eq dimension dimension ≡ true = (bytes_eq-Decides dimension dimension).1 refl in
    record {
      mask = rw (itself, mask_of_names-other dimension dimensions names other, is.mask) refl;
      listed = rw itself (AreListed-cons dimension dimensions names is.listed);
      distinct = rw (is_listed-AreListed dimension dimensions names is.listed other) is.distinct;
    }

-- each set of dimensions has names
Names-below : (dimensions : List (List ℕ)) (set : ℕ) → are_distinct dimensions ≡ true → set < 2 ^ length dimensions
    → (names : List (List ℕ)) × Names dimensions set names
Names-below [] set distinct below = ([], record { mask = omega (arith, below); listed = refl; distinct = refl })
Names-below (dimension ∷ dimensions) set distinct below =
    let (first, others) = and_parts (not (is_listed dimension dimensions)) (are_distinct dimensions) distinct in
    let other : is_listed dimension dimensions ≡ false = not-true (is_listed dimension dimensions) first in
    let half = even-odd set in
    elim half.1 [
      | inl even ↦
          let rest =
          Names-below dimensions half.0 others (omega (arith, even, below, pow-succ' 2 (length dimensions))) in (
            rest.0,
            subst (λ n. Names (dimension ∷ dimensions) n rest.0) (sym even)
                (Names-without dimension dimensions half.0 rest.0 other rest.1),
          )
      | inr odd ↦
          let rest =
          Names-below dimensions half.0 others (omega (arith, odd, below, pow-succ' 2 (length dimensions))) in (
            dimension ∷ rest.0,
            subst (λ n. Names (dimension ∷ dimensions) n (dimension ∷ rest.0)) (sym odd)
                (Names-with dimension dimensions half.0 rest.0 other rest.1),
          )
    ]

set_of_names-Names : (dimensions : List (List ℕ)) (set : ℕ) (names : List (List ℕ)) → Names dimensions set names
    → set_of_names dimensions names ≡ Some set
set_of_names-Names dimensions set names is = rw (is.listed, is.distinct) (ap Some is.mask)

-- so sets are what the items of an array write
sets_of_items-below : (dimensions : List (List ℕ)) (sets : List ℕ) → are_distinct dimensions ≡ true
    → AllByRecursion (λ set. set < 2 ^ length dimensions) sets
    → (items : Items) × (sets_of_items dimensions items ≡ Some sets)
sets_of_items-below dimensions [] distinct below = (no_items, refl)
sets_of_items-below dimensions (set ∷ sets) distinct below =
    let names = Names-below dimensions set distinct below.0 in
    let rest = sets_of_items-below dimensions sets distinct below.1 in
    let value = array (items_of_texts names.0) in
    let here : set_of_item dimensions value ≡ Some set
    = ap (option_and_then (set_of_names dimensions)) (texts_of-items_of_texts names.0)
    ∙ set_of_names-Names dimensions set names.0 names.1 in (
      item value rest.0,
      ap (option_and_then
          (λ (first : ℕ). option_map (λ (others : List ℕ). first ∷ others) (sets_of_items dimensions rest.0))) here
          ∙ ap (option_map (λ (others : List ℕ). set ∷ others)) rest.1,
    )

-- ascending sets rise, and so none stands twice
IsStrictlyIncreasing-Rise : (a b : ℕ) (xs : List ℕ) → IsStrictlyIncreasing xs → AllByRecursion (λ x. x < b) xs
    → a ≤ get_or xs 0 a → Rise a b xs
IsStrictlyIncreasing-Rise a b [] ascending below from = tt
IsStrictlyIncreasing-Rise a b (x ∷ []) ascending below from = (from, below.0, tt)
IsStrictlyIncreasing-Rise a b (x ∷ y ∷ xs) ascending below from =
    let step : x < y = ascending 0 (omega arith) in
    let after : IsStrictlyIncreasing (y ∷ xs) = λ k inside.
    let next : suc k + 1 ≡ suc (k + 1) = omega arith in
    subst (λ n. get_or (y ∷ xs) k 0 < get_or (x ∷ y ∷ xs) n 0) next (ascending (suc k) (omega (arith, inside))) in
    (from, below.0, IsStrictlyIncreasing-Rise (x + 1) b (y ∷ xs) after below.1 (omega (arith, step)))

are_distinct_sets-Rise : (a b : ℕ) (xs : List ℕ) → Rise a b xs → are_distinct_sets xs ≡ true
are_distinct_sets-Rise a b [] rise = refl
are_distinct_sets-Rise a b (x ∷ xs) rise =
    rw (is_among-Rise x (x + 1) b xs rise.2 (omega arith)) (are_distinct_sets-Rise (x + 1) b xs rise.2)

-- a document with these items of its grouping
abbrev document_of : Layout → Items → Members
document_of s sets =
    member (codes "aggregates") (array (items_of_texts s.aggregate_texts))
    (member (codes "dimensions") (array (items_of_texts s.dimensions))
    (member (codes "grouping") (array sets)
    (member (codes "max_records") (integer (pos s.max_records))
    (member (codes "measures") (array (items_of_texts s.measures))
    (member (codes "version") (integer (pos s.version)) no_members)))))

pub IsSchema-WritesSchema : (s : Layout) → IsSchema s → s.columns ≡ None → s.decimals ≡ []
    → s.text_places ≡ []
    → (document : Members) × WritesSchema document s
IsSchema-WritesSchema s is none no_decimals no_texts =
    let dimensions = length s.dimensions in
    let below : AllByRecursion (λ set. set < 2 ^ dimensions) s.grouping_sets =
    recursion_from_All (λ set. set < 2 ^ dimensions) s.grouping_sets
    (subst (λ n. All (λ set. set < 2 ^ n) s.grouping_sets) (number_of_dimensions-none s no_texts)
    is.sets_are_of_dimensions) in
    let distinct : are_distinct s.dimensions ≡ true =
    are_distinct-front s.dimensions s.measures is.names_are_distinct in
    let sets = sets_of_items-below s.dimensions s.grouping_sets distinct below in
    let rise : Rise 0 (2 ^ dimensions) s.grouping_sets =
    IsStrictlyIncreasing-Rise 0 (2 ^ dimensions) s.grouping_sets is.sets_are_ascending below (omega arith) in
    let lawful : are_lawful_sets s.grouping_sets ≡ true = and_from _ _ (le-leb 1 (length s.grouping_sets) is.some_set)
    (are_distinct_sets-Rise 0 (2 ^ dimensions) s.grouping_sets rise) in
    let named : named_sets s.dimensions (Some (array sets.0)) ≡ Some s.grouping_sets
    = ap (option_and_then (λ (named : List ℕ). if are_lawful_sets named then Some named else None)) sets.1
    ∙ ap (λ b. if b then Some s.grouping_sets else None) lawful in
    let kept : kept_sets dimensions s.grouping_sets ≡ s.grouping_sets =
    filter-Rise 0 (2 ^ dimensions) (2 ^ dimensions) s.grouping_sets (zero-add (2 ^ dimensions)) rise in
    let texts = texts_of-items_of_texts in (
      document_of s sets.0,
      record {
        known_keys = refl;
        dimensions = texts s.dimensions
            ∙ ap Some (sym (take_all (number_of_dimensions s) s.dimensions (rw no_texts (omega arith))));
        all_measures = s.measures;
        measures = texts s.measures;
        numbers = ap (λ places. beside_places places 0 s.measures) no_texts ∙ beside_places-none 0 s.measures;
        texts = ap (λ places. at_places places 0 s.measures) no_texts ∙ at_places-none 0 s.measures
            ∙ sym (drop_all (number_of_dimensions s) s.dimensions (rw no_texts (omega arith)));
        aggregates = texts s.aggregate_texts;
        max_records = ap (λ b. if b then Some s.max_records else None)
            (and_from _ _ (le-leb 1 s.max_records is.some_record) (lt-ltb s.max_records (2 ^ 32) is.records_at_most));
        grouping_sets =
            ap (λ found. sets_of_grouping (unwrap_or found []) (Some (array sets.0))) (texts s.dimensions)
            ∙ ap (option_map (kept_sets dimensions)) named
            ∙ ap Some kept;
        version = ap (λ b. if b then Some s.version else None)
            (and_from _ _ (le-leb 1 s.version is.version_at_least) (le-leb s.version 2 is.version_at_most));
        all_columns = None;
        columns = refl;
        columns_are = sym none;
        all_decimals = [];
        decimals = refl;
        decimals_are = sym no_decimals;
        text_places = ap Some (sym no_texts);
      },
    )
