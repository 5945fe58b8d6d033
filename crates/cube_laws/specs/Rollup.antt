-- What the laws of drill-down and roll-up speak of (Gray et al. 1997:
-- rolling up replaces the values of a dimension by ALL).
use Rattle.std.specs.Prelude.{◌≡◌, ℕ, ℤ, Bool, true, false, List, Contains, ◌+◌, ◌^◌}
use Rattle.std.specs.List.{AllByRecursion, filter_map}
use Rattle.cube_core.specs.Layout.{Layout}
use Rattle.cube_core.specs.Cube.{AreRows}
use Rattle.cube_core.specs.Merged.{number_in}
use Rattle.cube_core.specs.GroupingSet.{is_all_at, is_among, mask_of}
use Rattle.cube_laws.specs.Cells.{answer_at}
use Rattle.cube_core.specs.declared.aggregate.Agg.{Agg}
use Rattle.cube_core.specs.declared.aggregate.Agg.TheVariants as agg
use Rattle.cube_core.specs.declared.aggregate.Answer.TheVariants as answer
use Rattle.cube_core.specs.declared.fact.Fact.{Fact}
use Rattle.cube_core.specs.declared.key.Row.{Row}

-- the numbers that rows answer at a place, nulls left out
abbrev pub numbers_at : ℕ → List Row → List ℤ
numbers_at place rows = filter_map (λ row. number_in (answer_at place row)) rows

-- each of these rows answers null at a place
abbrev pub AreNullAt : ℕ → List Row → Type 0
AreNullAt place rows = AllByRecursion (λ row. answer_at place row ≡ answer.Null) rows

-- whether an aggregate answers a number, or null where there is no value
abbrev pub gives_numbers : Agg → Bool
gives_numbers agg.CountAll = false
gives_numbers (agg.Count m) = false
gives_numbers (agg.Sum m) = true
gives_numbers (agg.Min m) = true
gives_numbers (agg.Max m) = true
gives_numbers (agg.Avg m) = false
gives_numbers (agg.CountDistinct m) = false
gives_numbers (agg.PercentileDisc m units places) = true
gives_numbers (agg.SumOfSquares m) = false
gives_numbers (agg.VarPop m) = false
gives_numbers (agg.VarSamp m) = false
gives_numbers (agg.Values m) = false

-- this row is one of the cube over these facts, its key is ALL in this dimension,
-- and the set of the key with the dimension is kept too
pub record IsRolledUp (s : Layout) (facts : List Fact) (rows : List Row) (row : Row) (dimension : ℕ) : Type 0 where
  pub are_rows : AreRows s facts rows
  pub row_of_cube : Contains rows row
  pub is_all : is_all_at row.key dimension ≡ true
  pub is_kept : is_among (mask_of row.key + 2 ^ dimension) s.grouping_sets ≡ true
