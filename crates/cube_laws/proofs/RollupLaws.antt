-- The answer of a cell is the same aggregate of the answers one step below it, for COUNT, SUM, MIN and MAX.
use Rattle.std.proofs.Common.{◌≡◌, ℕ, ◌≤ℤ◌, ℤ, true, List, [], ◌∷◌, ◌++◌, length, map, flat_map, sum_by, slice_get}
use Rattle.std.proofs.Common.{Contains, Some, ◌↔◌, refl, sym, ap, ◌∙◌, subst, arith}
use Rattle.std.specs.List.{AllByRecursion}
use Rattle.std.proofs.lemmas.Int.{ints}
use Rattle.std.proofs.lemmas.List.Concat.{length-flat_map}
use Rattle.std.proofs.lemmas.List.Elements.{filter_map-append}
use Rattle.cube_core.specs.Layout.{Layout}
use Rattle.cube_core.specs.Answer.{IsSum, IsBest, IsLeast, IsGreatest, IsAnswer}
use Rattle.cube_core.specs.Cube.{key_of}
use Rattle.cube_core.specs.Group.{group_of, values_of, value_of}
use Rattle.cube_laws.specs.Cells.{all_counted, group_size, answer_at, count_at}
use Rattle.cube_core.specs.Merged.{count_answered}
use Rattle.cube_core.specs.Query.{drills_down, rows_below}
use Rattle.cube_laws.specs.Rollup.{IsRolledUp, numbers_at, gives_numbers}
use Rattle.cube_core.specs.declared.aggregate.Agg.{Agg}
use Rattle.cube_core.specs.declared.aggregate.Agg.TheVariants as agg
use Rattle.cube_core.specs.declared.aggregate.Answer.{Answer}
use Rattle.cube_core.specs.declared.aggregate.Answer.TheVariants as answer
use Rattle.cube_core.specs.declared.fact.Fact.{Fact}
use Rattle.cube_core.specs.declared.key.Row.{Row}
use Rattle.cube_core.proofs.ReorderedLaws.{Reordered, Reordered-sym}
use Rattle.cube_laws.proofs.RowOrderLaws.{length-Reordered, values_of-Reordered}
use Rattle.cube_laws.proofs.RowOrderLaws.{IsSum-Reordered, IsBest-Reordered}
use Rattle.cube_laws.proofs.CountLaws.{AreRows-answer_at}
use Rattle.cube_laws.proofs.GroupCountLaws.{joined_groups}
use Rattle.cube_laws.proofs.RollupBestLaws.{Says, IsSum-Says, IsBest-Says, IsPercentile-Says, numbers_among-none}
use Rattle.cube_laws.proofs.RollupBestLaws.{numbers_among-total_of}
use Rattle.cube_laws.proofs.RollupBestLaws.{IsBest-numbers_among, IsSum-total_of, Says-Null, Says-all_Null}
use Rattle.cube_laws.proofs.RollupKeyLaws.{joined_groups-rows_below}
use Rattle.cube_core.proofs.ListLaws.{Contains-AllByRecursion, Contains-filter, sum_by-map, sum_by-same}

-- the values of joined groups are the groups' values, joined
values_of-joined_groups : (m : ℕ) (rows : List Row) (facts : List Fact) →
    values_of m (joined_groups (map key_of rows) facts)
    ≡ flat_map (λ (row : Row). values_of m (group_of row.key facts)) rows
values_of-joined_groups m [] facts = refl
values_of-joined_groups m (row ∷ rows) facts =
    filter_map-append (value_of m) (group_of row.key facts) (joined_groups (map key_of rows) facts)
    ∙ ap (λ values. values_of m (group_of row.key facts) ++ values) (values_of-joined_groups m rows facts)

-- the measure that an aggregate is of
measure_in : Agg → ℕ
measure_in agg.CountAll = 0
measure_in (agg.Count m) = m
measure_in (agg.Sum m) = m
measure_in (agg.Min m) = m
measure_in (agg.Max m) = m
measure_in (agg.Avg m) = m
measure_in (agg.CountDistinct m) = m
measure_in (agg.PercentileDisc m units places) = m
measure_in (agg.SumOfSquares m) = m
measure_in (agg.VarPop m) = m
measure_in (agg.VarSamp m) = m
measure_in (agg.Values m) = m

-- what an answer to an aggregate of numbers says
IsAnswer-Says : (group : List Fact) (aggregate : Agg) (a : Answer) → gives_numbers aggregate ≡ true →
    IsAnswer group aggregate a → Says (values_of (measure_in aggregate) group) a
unfolding measure_in
IsAnswer-Says group agg.CountAll a numbers h = cc
IsAnswer-Says group (agg.Count m) a numbers h = cc
IsAnswer-Says group (agg.Sum m) a numbers h = IsSum-Says (values_of m group) a h
IsAnswer-Says group (agg.Min m) a numbers h = IsBest-Says (λ m x. m ≤ℤ x) (values_of m group) a h
IsAnswer-Says group (agg.Max m) a numbers h = IsBest-Says (λ m x. x ≤ℤ m) (values_of m group) a h
IsAnswer-Says group (agg.Avg m) a numbers h = cc
IsAnswer-Says group (agg.CountDistinct m) a numbers h = cc
IsAnswer-Says group (agg.PercentileDisc m units places) a numbers h =
    IsPercentile-Says units places (values_of m group) a h
IsAnswer-Says group (agg.SumOfSquares m) a numbers h = cc
IsAnswer-Says group (agg.VarPop m) a numbers h = cc
IsAnswer-Says group (agg.VarSamp m) a numbers h = cc
IsAnswer-Says group (agg.Values m) a numbers h = cc

module _ (s : Layout) (given : List Fact) (rows : List Row) (row : Row) (dimension place : ℕ)
    (is : IsRolledUp s given rows row dimension) where
  -- the facts as the cube counts them
  abbrev facts : List Fact
  facts = all_counted s given

  -- the rows one step below
  abbrev under : List Row
  under = rows_below dimension row.key rows

  -- the values of the group of a row
  abbrev values_in : ℕ → Row → List ℤ
  values_in m below = values_of m (group_of below.key facts)

  -- the answers of the rows
  rows-answer_at : (aggregate : Agg) → slice_get s.aggregates place ≡ Some aggregate → (other : Row) →
      Contains rows other →
      IsAnswer (group_of other.key facts) aggregate (answer_at place other)
  rows-answer_at aggregate at_place other among =
      AreRows-answer_at s facts rows is.are_rows other among place aggregate at_place

  -- what holds of each row holds of each one below
  AllByRecursion-under : (P : Row → Type 0) → ((other : Row) → Contains rows other → P other) → AllByRecursion P under
  AllByRecursion-under P h = Contains-AllByRecursion P under
      (λ below among.
      h below (Contains-filter (λ (other : Row). drills_down dimension row.key other.key) rows below among).0)

  -- the facts of the group, and its values, are those of the groups below
  group_of-under : Reordered (group_of row.key facts) (joined_groups (map key_of under) facts)
  group_of-under =
      Reordered-sym (joined_groups-rows_below s facts rows is.are_rows row.key dimension is.is_all is.is_kept)

  values_of-under : (m : ℕ) → Reordered (values_in m row) (flat_map (values_in m) under)
  values_of-under m =
      subst (Reordered (values_in m row)) (values_of-joined_groups m under facts) (values_of-Reordered m group_of-under)

  -- a count of facts rolls up
  pub CountAll-under : slice_get s.aggregates place ≡ Some agg.CountAll →
      count_at place row ≡ sum_by (count_at place) under
  CountAll-under at_place =
      ap count_answered (rows-answer_at agg.CountAll at_place row is.row_of_cube)
      ∙ length-Reordered group_of-under
      ∙ length-flat_map (λ key. group_of key facts) (map key_of under)
      ∙ sum_by-map key_of (λ key. length (group_of key facts)) under
      ∙ sym (sum_by-same (count_at place) (group_size facts) under
      (AllByRecursion-under (λ below. count_at place below ≡ group_size facts below)
      (λ below among. ap count_answered (rows-answer_at agg.CountAll at_place below among))))

  -- a count of values rolls up
  pub Count-under : (m : ℕ) → slice_get s.aggregates place ≡ Some (agg.Count m) →
      count_at place row ≡ sum_by (count_at place) under
  Count-under m at_place =
      ap count_answered (rows-answer_at (agg.Count m) at_place row is.row_of_cube)
      ∙ length-Reordered (values_of-under m)
      ∙ length-flat_map (values_in m) under
      ∙ sym (sum_by-same (count_at place) (λ below. length (values_in m below)) under
      (AllByRecursion-under (λ below. count_at place below ≡ length (values_in m below))
      (λ below among. ap count_answered (rows-answer_at (agg.Count m) at_place below among))))

  -- a sum rolls up
  pub Sum-under : (m : ℕ) → slice_get s.aggregates place ≡ Some (agg.Sum m) →
      IsSum (numbers_at place under) (answer_at place row)
  Sum-under m at_place =
      IsSum-total_of (numbers_at place under) (flat_map (values_in m) under) (answer_at place row)
      (numbers_among-none (values_in m) (answer_at place) under
      (AllByRecursion-under (λ below. Says (values_in m below) (answer_at place below))
      (λ below among.
      IsSum-Says (values_in m below) (answer_at place below) (rows-answer_at (agg.Sum m) at_place below among))))
      (numbers_among-total_of (values_in m) (answer_at place) under
      (AllByRecursion-under (λ below. IsSum (values_in m below) (answer_at place below))
      (rows-answer_at (agg.Sum m) at_place)))
      (IsSum-Reordered (values_in m row) (flat_map (values_in m) under) (answer_at place row) (values_of-under m)
      (rows-answer_at (agg.Sum m) at_place row is.row_of_cube))

  -- what is best rolls up
  IsBest-under : (IsAsGood : ℤ → ℤ → Type 0) → ((m n : ℤ) → IsAsGood m n → IsAsGood n m → m ≡ n) → (m : ℕ) →
      ((other : Row) → Contains rows other → IsBest IsAsGood (values_in m other) (answer_at place other)) →
      IsBest IsAsGood (numbers_at place under) (answer_at place row)
  IsBest-under IsAsGood one m best =
      IsBest-numbers_among (values_in m) (answer_at place) IsAsGood one under (answer_at place row)
      (AllByRecursion-under (λ below. IsBest IsAsGood (values_in m below) (answer_at place below)) best)
      (IsBest-Reordered IsAsGood (values_in m row) (flat_map (values_in m) under) (answer_at place row)
      (values_of-under m)
      (best row is.row_of_cube))

  -- so do a least value and a greatest
  pub Min-under : (m : ℕ) → slice_get s.aggregates place ≡ Some (agg.Min m) →
      IsLeast (numbers_at place under) (answer_at place row)
  Min-under m at_place =
      IsBest-under (λ m x. m ≤ℤ x) (λ m n h k. omega (arith, ints)) m (rows-answer_at (agg.Min m) at_place)

  pub Max-under : (m : ℕ) → slice_get s.aggregates place ≡ Some (agg.Max m) →
      IsGreatest (numbers_at place under) (answer_at place row)
  Max-under m at_place =
      IsBest-under (λ m x. x ≤ℤ m) (λ m n h k. omega (arith, ints)) m (rows-answer_at (agg.Max m) at_place)

  -- a null rolls up
  pub Null-under : (aggregate : Agg) → gives_numbers aggregate ≡ true →
      slice_get s.aggregates place ≡ Some aggregate →
      (answer_at place row ≡ answer.Null) ↔ AllByRecursion (λ below. answer_at place below ≡ answer.Null) under
  Null-under aggregate numbers at_place =
      let m = measure_in aggregate in
      let says : (other : Row) → Contains rows other → Says (values_in m other) (answer_at place other)
      = λ other among. IsAnswer-Says (group_of other.key facts) aggregate (answer_at place other) numbers
      (rows-answer_at aggregate at_place other among) in
      let own = Says-Null (values_in m row) (answer_at place row) (says row is.row_of_cube) in
      let each = Says-all_Null (values_in m) (answer_at place) under
      (AllByRecursion-under (λ below. Says (values_in m below) (answer_at place below)) says) in
      let as_many = length-Reordered (values_of-under m) in
      (λ null. each.1 (sym as_many ∙ own.0 null), λ nulls. own.1 (as_many ∙ each.0 nulls))
