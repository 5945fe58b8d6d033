-- The printed partial cubes of all shards of feeds, merged, are the printed cube of the feeds.
use Rattle.std.proofs.Common.{◌≡◌, ℕ, zero, suc, ◌+◌, ◌<◌, ◌≤◌, List, [], ◌∷◌, ◌++◌, length, map, IsPermutation, Some}
use Rattle.std.proofs.Common.{refl, sym, ap, subst, arith, append_assoc}
use Rattle.std.specs.List.{AllByRecursion, AllZip, range_with_len}
use Rattle.std.proofs.lemmas.List.Sorted.{IsPermutation-refl, IsPermutation-trans, IsPermutation-append}
use Rattle.std.proofs.lemmas.List.Sorted.{IsPermutation-append_comm}
use Rattle.cube_core.specs.FeedRecords.{feed_records, items_of}
use Rattle.cube_core.specs.Layout.{Layout, IsSchema}
use Rattle.cube_core.specs.PartialForm.{partial_form}
use Rattle.cube_core.specs.Printed.{IsPrinted}
use Rattle.cube_core.specs.Shard.{whole_feed}
use Rattle.cube_core.specs.Sources.{SurviveTogether, IsPrintedOf, items_of_sources}
use Rattle.cube_core.specs.Surviving.{AreSurviving}
use Rattle.cube_core.specs.declared.fact.Fact.{Fact}
use Rattle.cube_merge.specs.Merging.{IsMergeOf}
use Rattle.cube_laws.specs.Merging.{joined, IsSchemaWithoutTexts, IsMergedText, PutsPrintedOf}
use Rattle.cube_laws.specs.Shards.{of_shard, places}
use Rattle.cube_laws.specs.Told.{AreFewSources, CanBePrinted}
use Rattle.cube_laws.proofs.MergedTextLaws.{IsMergeOf-IsMergedText, IsMergedText-IsPrinted, IsMergedText-partial}
use Rattle.cube_laws.proofs.RowOrderLaws.{IsPrinted-IsPermutation}
use Rattle.cube_laws.proofs.ShardLaws.{AreSurviving-parts}
use Rattle.cube_laws.proofs.SourceGroupLaws.{AllZip-partial, SurviveTogether-partial}
use Rattle.cube_laws.proofs.SurvivorRangeLaws.{SurviveTogether-CanBePrinted}

-- a shard among so many is one of a schema
of_shard-IsSchema : (s : Layout) (count place : ℕ) → IsSchema s → place < count → count ≤ 65536
    → IsSchema (of_shard count s place)
of_shard-IsSchema s count place is below most = record {
  some_dimension = is.some_dimension;
  dimensions_at_most = is.dimensions_at_most;
  some_measure = is.some_measure;
  measures_at_most = is.measures_at_most;
  some_aggregate = is.some_aggregate;
  aggregates_at_most = is.aggregates_at_most;
  names_are_lawful = is.names_are_lawful;
  names_are_distinct = is.names_are_distinct;
  aggregates_are_of_measures = is.aggregates_are_of_measures;
  aggregates_suit = is.aggregates_suit;
  aggregates_are_spelled = is.aggregates_are_spelled;
  some_record = is.some_record;
  records_at_most = is.records_at_most;
  some_set = is.some_set;
  sets_are_ascending = is.sets_are_ascending;
  sets_are_of_dimensions = is.sets_are_of_dimensions;
  version_at_least = is.version_at_least;
  version_at_most = is.version_at_most;
  lawful_shard = record { below = below; at_most = most };
  lawful_record_bytes = is.lawful_record_bytes;
  lawful_columns = is.lawful_columns;
  few_digits = is.few_digits;
  text_places_are_ascending = is.text_places_are_ascending;
  text_places_are_of_measures = is.text_places_are_of_measures;
}

-- ---- shards of several sources
-- what survives a shard of each source
abbrev SurvivesShard : Layout → ℕ → List (List ℕ) → ℕ → List (List Fact) → Type 0
SurvivesShard s count sources place parts =
    AllZip (AreSurviving (of_shard count s place)) (items_of_sources (of_shard count s place) sources) parts

-- and what survives the shards from a place on, so many of them
abbrev SurviveShards : Layout → ℕ → List (List ℕ) → ℕ → ℕ → List (List (List Fact)) → Type 0
SurviveShards s count sources start len shards =
    AllZip (SurvivesShard s count sources) (range_with_len start len) shards

-- two halves of each of two parts, the first halves first
swap-halves : (a b c d : List Fact) → IsPermutation ((a ++ b) ++ (c ++ d)) ((a ++ c) ++ (b ++ d))
swap-halves a b c d =
    subst (λ left. IsPermutation left ((a ++ c) ++ (b ++ d))) (sym (append_assoc a b (c ++ d)))
    (subst (λ right. IsPermutation (a ++ (b ++ (c ++ d))) right) (sym (append_assoc a c (b ++ d)))
    (IsPermutation-append a a (b ++ (c ++ d)) (c ++ (b ++ d)) (IsPermutation-refl a)
    (subst (λ left. IsPermutation left (c ++ (b ++ d))) (append_assoc b c d)
    (subst (λ right. IsPermutation ((b ++ c) ++ d) right) (append_assoc c b d)
    (IsPermutation-append (b ++ c) (c ++ b) d d (IsPermutation-append_comm b c) (IsPermutation-refl d))))))

-- the first source of each shard, and the others
record FirstApart (s : Layout) (count start len : ℕ) (bytes : List ℕ) (sources : List (List ℕ))
    (shards : List (List (List Fact))) : Type 0 where
  firsts : List (List Fact)
  others : List (List (List Fact))
  first_survive : AllZip (λ place facts. AreSurviving (of_shard count s place)
      (items_of (of_shard count s place) (feed_records s bytes)).items facts) (range_with_len start len) firsts
  others_survive : SurviveShards s count sources start len others
  moved : IsPermutation (joined (map joined shards)) (joined firsts ++ joined (map joined others))

FirstApart-all : (s : Layout) (count start len : ℕ) (bytes : List ℕ) (sources : List (List ℕ))
    (shards : List (List (List Fact)))
    → SurviveShards s count (bytes ∷ sources) start len shards → FirstApart s count start len bytes sources shards
FirstApart-all s count start zero bytes sources [] all =
    record { firsts = []; others = []; first_survive = tt; others_survive = tt; moved = IsPermutation-refl [] }
FirstApart-all s count start zero bytes sources (parts ∷ shards) all = absurd all
FirstApart-all s count start (suc len) bytes sources [] all = absurd all
FirstApart-all s count start (suc len) bytes sources ([] ∷ shards) all = absurd all.0
FirstApart-all s count start (suc len) bytes sources ((part ∷ parts) ∷ shards) all =
    let rest = FirstApart-all s count (start + 1) len bytes sources shards all.1 in
    record {
      firsts = part ∷ rest.firsts;
      others = parts ∷ rest.others;
      first_survive = (all.0.0, rest.first_survive);
      others_survive = (all.0.1, rest.others_survive);
      moved = IsPermutation-trans
          ((part ++ joined parts) ++ joined (map joined shards))
          ((part ++ joined parts) ++ (joined rest.firsts ++ joined (map joined rest.others)))
          ((part ++ joined rest.firsts) ++ (joined parts ++ joined (map joined rest.others)))
          (IsPermutation-append (part ++ joined parts) (part ++ joined parts) (joined (map joined shards))
          (joined rest.firsts ++ joined (map joined rest.others))
          (IsPermutation-refl (part ++ joined parts)) rest.moved)
          (swap-halves part (joined parts) (joined rest.firsts) (joined (map joined rest.others)));
    }

-- shards of no source have no facts
no_source : (s : Layout) (count start len : ℕ) (shards : List (List (List Fact)))
    → SurviveShards s count [] start len shards → joined (map joined shards) ≡ []
no_source s count start zero [] all = refl
no_source s count start zero (parts ∷ shards) all = absurd all
no_source s count start (suc len) [] all = absurd all
no_source s count start (suc len) ([] ∷ shards) all = no_source s count (start + 1) len shards all.1
no_source s count start (suc len) ((part ∷ parts) ∷ shards) all = absurd all.0

-- the facts of all shards are those that survive the sources, in another order
record SurvivesAll (s : Layout) (sources : List (List ℕ)) (facts : List Fact) : Type 0 where
  together : List Fact
  survive : SurviveTogether s (items_of_sources s sources) together
  moved : IsPermutation facts together

SurvivesAll-shards : (s : Layout) (count : ℕ) (sources : List (List ℕ)) (shards : List (List (List Fact)))
    → s.shard ≡ whole_feed → 1 ≤ count
    → SurviveShards s count sources 0 count shards → SurvivesAll s sources (joined (map joined shards))
SurvivesAll-shards s count [] shards whole some all = record {
  together = [];
  survive = record { parts = []; of_each = tt; joined = refl };
  moved = subst (λ facts. IsPermutation facts []) (sym (no_source s count 0 count shards all)) (IsPermutation-refl []);
}
SurvivesAll-shards s count (bytes ∷ sources) shards whole some all =
    let apart = FirstApart-all s count 0 count bytes sources shards all in
    let first : AreSurviving s (items_of s (feed_records s bytes)).items (joined apart.firsts) =
    AreSurviving-parts s count (feed_records s bytes) apart.firsts whole some apart.first_survive in
    let rest = SurvivesAll-shards s count sources apart.others whole some apart.others_survive in
    record {
      together = joined apart.firsts ++ rest.together;
      survive = record {
        parts = joined apart.firsts ∷ rest.survive.parts;
        of_each = (first, rest.survive.of_each);
        joined = ap (λ facts. joined apart.firsts ++ facts) rest.survive.joined;
      };
      moved = IsPermutation-trans
          (joined (map joined shards)) (joined apart.firsts ++ joined (map joined apart.others))
          (joined apart.firsts ++ rest.together)
          apart.moved
          (IsPermutation-append (joined apart.firsts) (joined apart.firsts)
          (joined (map joined apart.others)) rest.together (IsPermutation-refl (joined apart.firsts)) rest.moved);
    }

-- ---- the prints of shards
-- what survives the shards from a place on, and is printed of each
record ArePrintedShards (s : Layout) (count start len : ℕ) (sources texts : List (List ℕ)) : Type 0 where
  shards : List (List (List Fact))
  survive : SurviveShards s count sources start len shards
  survive_partial : SurviveShards (partial_form s) count sources start len shards
  printed : AllZip (IsPrinted (partial_form s)) (map joined shards) texts
  printable : AllByRecursion (CanBePrinted s) (map joined shards)
  as_many : length (map joined shards) ≡ len

ArePrintedShards-all : (s : Layout) (count start len : ℕ) (sources texts : List (List ℕ)) → IsSchema s
    → start + len ≤ count → count ≤ 65536 → AreFewSources sources
    → AllZip (λ place text. IsPrintedOf (partial_form (of_shard count s place)) sources text)
    (range_with_len start len) texts
    → ArePrintedShards s count start len sources texts
ArePrintedShards-all s count start zero sources [] schema within most few all =
    record { shards = []; survive = tt; survive_partial = tt; printed = tt; printable = tt; as_many = refl }
ArePrintedShards-all s count start zero sources (text ∷ texts) schema within most few all = absurd all
ArePrintedShards-all s count start (suc len) sources [] schema within most few all = absurd all
ArePrintedShards-all s count start (suc len) sources (text ∷ texts) schema within most few all =
    let rest =
    ArePrintedShards-all s count (start + 1) len sources texts schema (omega (arith, within)) most few all.1 in
    let facts : List Fact = all.0.facts in
    let survive = SurviveTogether-partial (of_shard count s start) sources facts all.0.survive in
    let can = SurviveTogether-CanBePrinted (of_shard count s start) sources
    (of_shard-IsSchema s count start schema (omega (arith, within)) most) few facts survive in
    let parts : List (List Fact) = all.0.survive.parts in
    let is_joined : facts ≡ joined parts = all.0.survive.joined in
    let print : IsPrinted (partial_form s) facts text =
    record { rows = all.0.printed.rows; are_rows = all.0.printed.are_rows; text_is = all.0.printed.text_is } in
    let printable : CanBePrinted s facts = record { fit = can.fit; countable = can.countable } in
    record {
      shards = parts ∷ rest.shards;
      survive = (AllZip-partial (of_shard count s start) sources parts all.0.survive.of_each, rest.survive);
      survive_partial = (all.0.survive.of_each, rest.survive_partial);
      printed = (subst (λ these. IsPrinted (partial_form s) these text) is_joined print, rest.printed);
      printable = (subst (CanBePrinted s) is_joined printable, rest.printable);
      as_many = ap suc rest.as_many;
    }

-- merging the printed shards of sources is printing the sources
pub IsMergedText-shards : (s : Layout) (count : ℕ) (sources texts : List (List ℕ)) (text : List ℕ) → IsSchemaWithoutTexts s
    → s.shard ≡ whole_feed → 1 ≤ count → count ≤ 65536 → AreFewSources sources
    → AllZip (λ place part. IsPrintedOf (partial_form (of_shard count s place)) sources part) (places count) texts
    → IsMergedText (partial_form s) s texts text → IsPrintedOf s sources text
IsMergedText-shards s count sources texts text schema whole some most few all merged =
    let found = ArePrintedShards-all s count 0 count sources texts schema.schema (omega arith) most few all in
    let survivors = SurvivesAll-shards s count sources found.shards whole some found.survive in
    let parts : List (List Fact) = map joined found.shards in
    record {
      facts = survivors.together;
      survive = survivors.survive;
      printed = IsPrinted-IsPermutation s (joined parts) survivors.together text survivors.moved
          (IsMergedText-IsPrinted s parts texts text schema
          (omega (arith, some, found.as_many)) found.printable found.printed merged);
    }

pub IsMergedText-shards_partial : (s : Layout) (count : ℕ) (sources texts : List (List ℕ)) (text : List ℕ) → IsSchemaWithoutTexts s
    → s.shard ≡ whole_feed → 1 ≤ count → count ≤ 65536 → AreFewSources sources
    → AllZip (λ place part. IsPrintedOf (partial_form (of_shard count s place)) sources part) (places count) texts
    → IsMergedText (partial_form s) (partial_form s) texts text
    → IsPrintedOf (partial_form s) sources text
IsMergedText-shards_partial s count sources texts text schema whole some most few all merged =
    let found = ArePrintedShards-all s count 0 count sources texts schema.schema (omega arith) most few all in
    let survivors = SurvivesAll-shards (partial_form s) count sources found.shards whole some found.survive_partial in
    let parts : List (List Fact) = map joined found.shards in
    record {
      facts = survivors.together;
      survive = survivors.survive;
      printed = IsPrinted-IsPermutation (partial_form s) (joined parts) survivors.together text survivors.moved
          (IsMergedText-partial s parts texts text schema
          (omega (arith, some, found.as_many)) found.printable found.printed merged);
    }

-- so a merge of the printed partial cubes of all shards writes the printed cube of the sources
pub IsMergeOf-shards : (s : Layout) (count : ℕ) (sources texts : List (List ℕ)) (old new : List ℕ) → IsSchemaWithoutTexts s
    → s.shard ≡ whole_feed → 1 ≤ count → count ≤ 65536 → AreFewSources sources
    → AllZip (λ place part. IsPrintedOf (partial_form (of_shard count s place)) sources part) (places count) texts
    → IsMergeOf (partial_form s) s (map Some texts) (Some old) (Some new) → PutsPrintedOf s sources old new
IsMergeOf-shards s count sources texts old new schema whole some most few all merge =
    let wrote = IsMergeOf-IsMergedText (partial_form s) s texts old new merge in
    (wrote.0, wrote.1, IsMergedText-shards s count sources texts wrote.0 schema whole some most few all wrote.2)

pub IsMergeOf-shards_partial : (s : Layout) (count : ℕ) (sources texts : List (List ℕ)) (old new : List ℕ)
    → IsSchemaWithoutTexts s → s.shard ≡ whole_feed → 1 ≤ count → count ≤ 65536 → AreFewSources sources
    → AllZip (λ place part. IsPrintedOf (partial_form (of_shard count s place)) sources part) (places count) texts
    → IsMergeOf (partial_form s) (partial_form s) (map Some texts) (Some old) (Some new)
    → PutsPrintedOf (partial_form s) sources old new
IsMergeOf-shards_partial s count sources texts old new schema whole some most few all merge =
    let wrote = IsMergeOf-IsMergedText (partial_form s) (partial_form s) texts old new merge in
    (wrote.0, wrote.1, IsMergedText-shards_partial s count sources texts wrote.0 schema whole some most few all wrote.2)
