-- The words of the laws on the cubes of one fact and of none (Gray et al. 1997; SQL:1999, aggregate functions:
-- COUNT of no value is 0, the others of no value are null).
use Rattle.std.specs.Prelude.{◌≡◌, ◌⊎◌, ℕ, ℤ, zero, suc, List, [], ◌∷◌, map, get_or, Option, Some, None}
use Rattle.std.specs.List.{AllZip}
use Rattle.cube_core.specs.Layout.{Layout, number_of_dimensions}
use Rattle.cube_core.specs.Variance.{square}
use Rattle.cube_core.specs.declared.aggregate.Agg.{Agg}
use Rattle.cube_core.specs.declared.aggregate.Agg.TheVariants as agg
use Rattle.cube_core.specs.declared.aggregate.Answer.{Answer}
use Rattle.cube_core.specs.declared.aggregate.Answer.TheVariants as answer
use Rattle.cube_core.specs.declared.fact.Fact.{Fact}
use Rattle.cube_core.specs.declared.key.Coord.{Coord}
use Rattle.cube_core.specs.declared.key.Coord.TheVariants as coord
use Rattle.cube_core.specs.declared.key.Key.{Key}
use Rattle.cube_core.specs.declared.key.Row.{Row}

-- the coordinate of a value: its text, or null
abbrev pub coord_for : Option (List ℕ) → Coord
coord_for None = coord.Null
coord_for (Some text) = coord.Text text

-- a key has the fact's value or ALL in each dimension
abbrev pub HasValuesOrAll : Fact → Key → Type 0
HasValuesOrAll fact key = AllZip (λ c value. (c ≡ coord.All) ⊎ (c ≡ coord_for value)) key.coords fact.dims

-- how many values one value is, or null
abbrev pub count_of_value : Option ℤ → Answer
count_of_value None = answer.Count 0
count_of_value (Some value) = answer.Count 1

-- a value itself, or null
abbrev pub answer_of_value : Option ℤ → Answer
answer_of_value None = answer.Null
answer_of_value (Some value) = answer.Whole value

-- the mean of one value, or of null
abbrev pub mean_of_value : Option ℤ → Answer
mean_of_value None = answer.Null
mean_of_value (Some value) = answer.Ratio value 1

-- the sum of the squares of one value, or of null
abbrev pub squares_of_value : Option ℤ → Answer
squares_of_value None = answer.Null
squares_of_value (Some value) = answer.Squares (square value)

-- the variance of one value, or of null, as the population
abbrev pub variance_of_value : Option ℤ → Answer
variance_of_value None = answer.Null
variance_of_value (Some value) = answer.Variance 0 1

-- the values of one value, which is held once, or of null
abbrev pub values_of_value : Option ℤ → Answer
values_of_value None = answer.Values []
values_of_value (Some value) = answer.Values ((value, 1) ∷ [])

-- what an aggregate answers of one fact
abbrev pub answer_of_fact : Fact → Agg → Answer
answer_of_fact fact agg.CountAll = answer.Count 1
answer_of_fact fact (agg.Count m) = count_of_value (get_or fact.measures m None)
answer_of_fact fact (agg.Sum m) = answer_of_value (get_or fact.measures m None)
answer_of_fact fact (agg.Min m) = answer_of_value (get_or fact.measures m None)
answer_of_fact fact (agg.Max m) = answer_of_value (get_or fact.measures m None)
answer_of_fact fact (agg.Avg m) = mean_of_value (get_or fact.measures m None)
answer_of_fact fact (agg.CountDistinct m) = count_of_value (get_or fact.measures m None)
answer_of_fact fact (agg.PercentileDisc m units places) = answer_of_value (get_or fact.measures m None)
answer_of_fact fact (agg.SumOfSquares m) = squares_of_value (get_or fact.measures m None)
answer_of_fact fact (agg.VarPop m) = variance_of_value (get_or fact.measures m None)
answer_of_fact fact (agg.VarSamp m) = answer.Null
answer_of_fact fact (agg.Values m) = values_of_value (get_or fact.measures m None)

-- what an aggregate answers of no fact
abbrev pub answer_of_none : Agg → Answer
answer_of_none agg.CountAll = answer.Count 0
answer_of_none (agg.Count m) = answer.Count 0
answer_of_none (agg.Sum m) = answer.Null
answer_of_none (agg.Min m) = answer.Null
answer_of_none (agg.Max m) = answer.Null
answer_of_none (agg.Avg m) = answer.Null
answer_of_none (agg.CountDistinct m) = answer.Count 0
answer_of_none (agg.PercentileDisc m units places) = answer.Null
answer_of_none (agg.SumOfSquares m) = answer.Null
answer_of_none (agg.VarPop m) = answer.Null
answer_of_none (agg.VarSamp m) = answer.Null
answer_of_none (agg.Values m) = answer.Values []

-- so many coordinates that are all ALL
abbrev pub all_coords : ℕ → List Coord
all_coords zero = []
all_coords (suc dimensions) = coord.All ∷ all_coords dimensions

-- the row of the grand total over no fact
abbrev pub total_of_none : Layout → Row
total_of_none s = record {
  key = record { coords = all_coords (number_of_dimensions s) };
  answers = map answer_of_none s.aggregates;
}
