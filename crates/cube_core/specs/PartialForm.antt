-- The partial form of a schema: it also has what each mean, each variance, each distinct count and each percentile is made
-- of, so that cubes under it can be merged (Gray et al. 1997: means and variances are algebraic, made of SUM, COUNT and the
-- sum of the squares; the others are holistic, made of all values).
use Rattle.std.specs.Prelude.{◌≡◌, ◌==◌, ◌&&◌, ◌<◌, ◌≤◌, ⊤, ℕ, Bool, true, false, List, [], ◌∷◌, ◌++◌, length, map, if◌then◌else◌}
use Rattle.std.specs.Prelude.{Result, Ok, Err}
use Rattle.std.specs.List.{list_any, fold}
use Rattle.cube_core.specs.Layout.{Layout, counted_names, spelling_of}
use Rattle.cube_core.specs.declared.aggregate.Agg.{Agg}
use Rattle.cube_core.specs.declared.aggregate.Agg.TheVariants.{CountAll, Count, Sum, Min, Max, Avg}
use Rattle.cube_core.specs.declared.aggregate.Agg.TheVariants.{CountDistinct, PercentileDisc, SumOfSquares, VarPop, VarSamp, Values}
use Rattle.cube_core.specs.declared.schema_fault.SchemaFault.{SchemaFault}
use Rattle.cube_core.specs.declared.schema_fault.SchemaFault.TheVariants.{Memory, Texts}

-- whether two aggregates are the same
abbrev pub is_aggregate : Agg → Agg → Bool
is_aggregate CountAll CountAll = true
is_aggregate (Count m) (Count n) = m == n
is_aggregate (Sum m) (Sum n) = m == n
is_aggregate (Min m) (Min n) = m == n
is_aggregate (Max m) (Max n) = m == n
is_aggregate (Avg m) (Avg n) = m == n
is_aggregate (CountDistinct m) (CountDistinct n) = m == n
is_aggregate (PercentileDisc m units places) (PercentileDisc n others digits) =
    m == n && units == others && places == digits
is_aggregate (SumOfSquares m) (SumOfSquares n) = m == n
is_aggregate (VarPop m) (VarPop n) = m == n
is_aggregate (VarSamp m) (VarSamp n) = m == n
is_aggregate (Values m) (Values n) = m == n
is_aggregate _ _ = false

-- whether an aggregate stands in a list of aggregates
abbrev pub has_aggregate : Agg → List Agg → Bool
has_aggregate agg aggregates = list_any (is_aggregate agg) aggregates

-- a list of aggregates, and this one at its end where it isn't there yet
abbrev pub with_aggregate : List Agg → Agg → List Agg
with_aggregate aggregates agg = if has_aggregate agg aggregates then aggregates else aggregates ++ agg ∷ []

-- a list of aggregates with what a mean is made of: the sum, and then the count
abbrev pub with_mean_parts : List Agg → ℕ → List Agg
with_mean_parts aggregates m = with_aggregate (with_aggregate aggregates (Sum m)) (Count m)

-- with what a variance is made of: these two, and then the sum of the squares
abbrev pub with_variance_parts : List Agg → ℕ → List Agg
with_variance_parts aggregates m = with_aggregate (with_mean_parts aggregates m) (SumOfSquares m)

-- a list of aggregates with what this one is made of, where it is a mean, a variance, a distinct count or a percentile
abbrev pub with_parts : List Agg → Agg → List Agg
with_parts aggregates (Avg m) = with_mean_parts aggregates m
with_parts aggregates (VarPop m) = with_variance_parts aggregates m
with_parts aggregates (VarSamp m) = with_variance_parts aggregates m
with_parts aggregates (CountDistinct m) = with_aggregate aggregates (Values m)
with_parts aggregates (PercentileDisc m units places) = with_aggregate aggregates (Values m)
with_parts aggregates _ = aggregates

-- aggregates, and then what each of them is made of that is made of others, in their order
abbrev pub partial_aggregates : List Agg → List Agg
partial_aggregates aggregates = fold with_parts aggregates aggregates

-- the partial form of a schema
abbrev pub partial_form : Layout → Layout
partial_form s = record s {
  aggregates = partial_aggregates s.aggregates;
  aggregate_texts = map (spelling_of (counted_names s)) (partial_aggregates s.aggregates);
}

-- the most aggregates of a schema: 16 of its document, and 4 for each measure
abbrev pub most_aggregates : ℕ
most_aggregates = 32

-- what may be answered to a wish for the partial form: the form, where no text is counted, that some are, that it has too
-- many aggregates, or that memory ran out
abbrev pub AnswersPartial : Layout → Result Layout SchemaFault → Type 0
AnswersPartial s (Ok form) = (s.text_places ≡ []) × (form ≡ partial_form s)
AnswersPartial s (Err Memory) = ⊤
AnswersPartial s (Err Texts) = 1 ≤ length s.text_places
AnswersPartial s (Err _) = most_aggregates < length (partial_aggregates s.aggregates)
