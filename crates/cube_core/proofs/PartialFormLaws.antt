-- The partial form of a schema is a schema.
use Rattle.std.proofs.Common.{◌≡◌, ◌≤◌, ◌∷◌, [], ℕ, Bool, true, nat_lt, List, length, map, fold, refl, inl, inr, arith}
use Rattle.std.proofs.Common.{Option, ap, ◌∙◌, subst, sym}
use Rattle.std.proofs.Common.{length-append}
use Rattle.std.specs.List.{list_all}
use Rattle.std.proofs.lemmas.Bool.{cases_Bool, and_parts}
use Rattle.std.proofs.lemmas.List.Folds.{list_all-append}
use Rattle.cube_core.specs.Layout.{Layout, IsSchema, counted_names, is_aggregate_of, is_level, spelling_of, suits}
use Rattle.cube_core.proofs.TextSchemaLaws.{are_aggregates_of-suit, counted_names-none}
use Rattle.cube_core.specs.PartialForm.{has_aggregate, with_aggregate, with_mean_parts, with_variance_parts, with_parts, partial_aggregates, partial_form}
use Rattle.cube_core.specs.declared.aggregate.Agg.{Agg}
use Rattle.cube_core.specs.declared.feed_columns.FeedColumns.{FeedColumns}
use Rattle.cube_core.specs.declared.aggregate.Agg.TheVariants.{CountAll, Count, Sum, Min, Max, Avg, CountDistinct}
use Rattle.cube_core.specs.declared.aggregate.Agg.TheVariants.{PercentileDisc, SumOfSquares, VarPop, VarSamp, Values}

-- a list with one more aggregate, or the same list: what all pass, and how long it is at least
with_aggregate-list_all : (p : Agg → Bool) (aggregates : List Agg) (agg : Agg) → list_all p aggregates ≡ true
    → p agg ≡ true → list_all p (with_aggregate aggregates agg) ≡ true
with_aggregate-list_all p aggregates agg all one = elim (cases_Bool (has_aggregate agg aggregates)) [
  | inl there ↦ rw there all
  | inr missing ↦ rw (missing, list_all-append p aggregates (agg ∷ []), all, one) refl
]

with_aggregate-length : (aggregates : List Agg) (agg : Agg) → length aggregates ≤ length (with_aggregate aggregates agg)
with_aggregate-length aggregates agg = elim (cases_Bool (has_aggregate agg aggregates)) [
  | inl there ↦ rw there (omega arith)
  | inr missing ↦ rw (missing, length-append aggregates (agg ∷ [])) (omega arith)
]

mean_parts-list_all : (measures : ℕ) (aggregates : List Agg) (m : ℕ) → list_all (is_aggregate_of measures) aggregates ≡ true
    → nat_lt m measures ≡ true → list_all (is_aggregate_of measures) (with_mean_parts aggregates m) ≡ true
mean_parts-list_all measures aggregates m all one =
    with_aggregate-list_all (is_aggregate_of measures) (with_aggregate aggregates (Sum m)) (Count m)
    (with_aggregate-list_all (is_aggregate_of measures) aggregates (Sum m) all one) one

variance_parts-list_all : (measures : ℕ) (aggregates : List Agg) (m : ℕ)
    → list_all (is_aggregate_of measures) aggregates ≡ true → nat_lt m measures ≡ true
    → list_all (is_aggregate_of measures) (with_variance_parts aggregates m) ≡ true
variance_parts-list_all measures aggregates m all one =
    with_aggregate-list_all (is_aggregate_of measures) (with_mean_parts aggregates m) (SumOfSquares m)
    (mean_parts-list_all measures aggregates m all one) one

with_parts-list_all : (measures : ℕ) (aggregates : List Agg) (agg : Agg)
    → list_all (is_aggregate_of measures) aggregates ≡ true → is_aggregate_of measures agg ≡ true
    → list_all (is_aggregate_of measures) (with_parts aggregates agg) ≡ true
with_parts-list_all measures aggregates (Avg m) all one = mean_parts-list_all measures aggregates m all one
with_parts-list_all measures aggregates (VarPop m) all one = variance_parts-list_all measures aggregates m all one
with_parts-list_all measures aggregates (VarSamp m) all one = variance_parts-list_all measures aggregates m all one
with_parts-list_all measures aggregates (SumOfSquares m) all one = all
with_parts-list_all measures aggregates CountAll all one = all
with_parts-list_all measures aggregates (Count m) all one = all
with_parts-list_all measures aggregates (Sum m) all one = all
with_parts-list_all measures aggregates (Min m) all one = all
with_parts-list_all measures aggregates (Max m) all one = all
with_parts-list_all measures aggregates (Values m) all one = all
with_parts-list_all measures aggregates (CountDistinct m) all one =
    with_aggregate-list_all (is_aggregate_of measures) aggregates (Values m) all one
with_parts-list_all measures aggregates (PercentileDisc m units places) all one =
    with_aggregate-list_all (is_aggregate_of measures) aggregates (Values m) all
    (and_parts (nat_lt m measures) (is_level units places) one).0

mean_parts-length : (aggregates : List Agg) (m : ℕ) → length aggregates ≤ length (with_mean_parts aggregates m)
mean_parts-length aggregates m = omega (
  arith,
  with_aggregate-length aggregates (Sum m),
  with_aggregate-length (with_aggregate aggregates (Sum m)) (Count m),
)

variance_parts-length : (aggregates : List Agg) (m : ℕ) → length aggregates ≤ length (with_variance_parts aggregates m)
variance_parts-length aggregates m = omega (
  arith,
  mean_parts-length aggregates m,
  with_aggregate-length (with_mean_parts aggregates m) (SumOfSquares m),
)

with_parts-length : (aggregates : List Agg) (agg : Agg) → length aggregates ≤ length (with_parts aggregates agg)
with_parts-length aggregates (Avg m) = mean_parts-length aggregates m
with_parts-length aggregates (VarPop m) = variance_parts-length aggregates m
with_parts-length aggregates (VarSamp m) = variance_parts-length aggregates m
with_parts-length aggregates (SumOfSquares m) = omega arith
with_parts-length aggregates CountAll = omega arith
with_parts-length aggregates (Count m) = omega arith
with_parts-length aggregates (Sum m) = omega arith
with_parts-length aggregates (Min m) = omega arith
with_parts-length aggregates (Max m) = omega arith
with_parts-length aggregates (Values m) = omega arith
with_parts-length aggregates (CountDistinct m) = with_aggregate-length aggregates (Values m)
with_parts-length aggregates (PercentileDisc m units places) = with_aggregate-length aggregates (Values m)

fold-list_all : (measures : ℕ) (all means : List Agg) → list_all (is_aggregate_of measures) all ≡ true
    → list_all (is_aggregate_of measures) means ≡ true
    → list_all (is_aggregate_of measures) (fold with_parts all means) ≡ true
fold-list_all measures all [] of others = of
fold-list_all measures all (agg ∷ means) of others =
    let (one, rest) = and_parts (is_aggregate_of measures agg) (list_all (is_aggregate_of measures) means) others in
    fold-list_all measures (with_parts all agg) means (with_parts-list_all measures all agg of one) rest

fold-length : (all means : List Agg) → length all ≤ length (fold with_parts all means)
fold-length all [] = omega arith
fold-length all (agg ∷ means) = omega (arith, with_parts-length all agg, fold-length (with_parts all agg) means)

-- the partial form of a schema of numbers alone is one, where it hasn't too many aggregates
pub partial_form-IsSchema : (s : Layout) → IsSchema s → s.text_places ≡ []
    → length (partial_aggregates s.aggregates) ≤ 32 → IsSchema (partial_form s)
partial_form-IsSchema s is none few =
    let numbers : list_all (is_aggregate_of (length (counted_names s))) (partial_aggregates s.aggregates) ≡ true =
    fold-list_all (length (counted_names s)) s.aggregates s.aggregates is.aggregates_are_of_measures
    is.aggregates_are_of_measures in
    record {
      some_dimension = is.some_dimension;
      dimensions_at_most = is.dimensions_at_most;
      some_measure = is.some_measure;
      measures_at_most = is.measures_at_most;
      some_aggregate = omega (arith, is.some_aggregate, fold-length s.aggregates s.aggregates);
      aggregates_at_most = few;
      names_are_lawful = is.names_are_lawful;
      names_are_distinct = is.names_are_distinct;
      aggregates_are_of_measures = numbers;
      aggregates_suit = subst (λ names. list_all (suits (length names)) (partial_aggregates s.aggregates) ≡ true)
          (counted_names-none s none)
          (are_aggregates_of-suit (length (counted_names s)) (partial_aggregates s.aggregates) numbers);
      aggregates_are_spelled = refl;
      some_record = is.some_record;
      records_at_most = is.records_at_most;
      some_set = is.some_set;
      sets_are_ascending = is.sets_are_ascending;
      sets_are_of_dimensions = is.sets_are_of_dimensions;
      version_at_least = is.version_at_least;
      version_at_most = is.version_at_most;
      lawful_shard = is.lawful_shard;
      lawful_record_bytes = is.lawful_record_bytes;
      lawful_columns = is.lawful_columns;
      few_digits = is.few_digits;
      text_places_are_ascending = is.text_places_are_ascending;
      text_places_are_of_measures = is.text_places_are_of_measures;
    }

-- the partial form, of parts that were copied or made
pub copied-partial_form : (s : Layout) (dimensions measures texts : List (List ℕ)) (aggregates : List Agg)
    (sets : List ℕ) (columns : Option FeedColumns) (decimals : List (Option ℕ)) (places : List ℕ) → s.text_places ≡ []
    → dimensions ≡ s.dimensions → measures ≡ s.measures → aggregates ≡ partial_aggregates s.aggregates
    → texts ≡ map (spelling_of measures) aggregates → sets ≡ s.grouping_sets → columns ≡ s.columns
    → decimals ≡ s.decimals → places ≡ []
    → partial_form s ≡ record s {
      dimensions = dimensions;
      measures = measures;
      aggregates = aggregates;
      aggregate_texts = texts;
      grouping_sets = sets;
      columns = columns;
      decimals = decimals;
      text_places = places;
    }
copied-partial_form s dimensions measures texts aggregates sets columns decimals places none d m a t g c e p =
    let spelled : map (spelling_of (counted_names s)) (partial_aggregates s.aggregates) ≡ texts =
    ap (λ names. map (spelling_of names) (partial_aggregates s.aggregates)) (counted_names-none s none)
    ∙ sym (t ∙ (λ i. map (spelling_of (m i)) (a i))) in
    (λ i. record s {
      dimensions = sym d i;
      measures = sym m i;
      aggregates = sym a i;
      aggregate_texts = spelled i;
      grouping_sets = sym g i;
      columns = sym c i;
      decimals = sym e i;
      text_places = (none ∙ sym p) i;
    })
