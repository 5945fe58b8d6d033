-- The rows that drill down from a key, found alone, are those among all rows.
use Rattle.std.proofs.Common.{◌≡◌, ℕ, List, map, filter, sym, ◌∙◌}
use Rattle.std.proofs.lemmas.List.Kept.{IsStrictlySortedBy-filter}
use Rattle.cube_core.specs.Layout.{Layout, number_of_dimensions}
use Rattle.cube_core.specs.Cube.{HasAnswers, key_of}
use Rattle.cube_core.specs.Order.{key_cmp}
use Rattle.cube_core.specs.Query.{AreRowsWhere, drills_down, rows_below}
use Rattle.cube_core.specs.declared.fact.Fact.{Fact}
use Rattle.cube_core.specs.declared.key.Key.{Key}
use Rattle.cube_core.specs.declared.key.Row.{Row}
use Rattle.cube_core.proofs.ListLaws.{AllByRecursion-Contains, Contains-AllByRecursion, Contains-filter}
use Rattle.cube_core.proofs.ListLaws.{filter-Contains, map-filter}
use Rattle.cube_core.proofs.KeyOrderLaws.{key_cmp-IsTotalOrder}
use Rattle.cube_laws.specs.Cells.{AreCountedRows}
use Rattle.cube_laws.proofs.RowLaws.{HasAnswers-keys}
use Rattle.cube_laws.proofs.SortedLaws.{IsStrictlySortedBy-unique}

-- the rows of a cube that drill down from a key are those among all its rows
pub rows_below-unique : (s : Layout) (facts : List Fact) (rows drilled : List Row) (above : Key) (dimension : ℕ) →
    AreCountedRows s facts rows →
    AreRowsWhere (drills_down dimension above) s.grouping_sets (number_of_dimensions s) s.aggregates facts drilled →
    drilled ≡ rows_below dimension above rows
rows_below-unique s facts rows drilled above dimension all some =
    HasAnswers-keys s.aggregates facts drilled (rows_below dimension above rows)
    (IsStrictlySortedBy-unique key_cmp-IsTotalOrder (map key_of drilled) keys some.ordered
    (IsStrictlySortedBy-filter key_cmp (drills_down dimension above) (map key_of rows) all.ordered)
    (λ key among. let cell = (some.cells key).0 among in
    filter-Contains (drills_down dimension above) (map key_of rows) key ((all.cells key).1 cell.0) cell.1)
    (λ key among. let found = Contains-filter (drills_down dimension above) (map key_of rows) key among in
    (some.cells key).1 ((all.cells key).0 found.0, found.1))
    ∙ sym (map-filter key_of (drills_down dimension above) rows))
    some.answers
    (Contains-AllByRecursion (HasAnswers s.aggregates facts) (rows_below dimension above rows)
    (λ row among. AllByRecursion-Contains (HasAnswers s.aggregates facts) rows row all.answers
    (Contains-filter (λ (row : Row). drills_down dimension above row.key) rows row among).0))
  where
    keys : List Key
    keys = filter (drills_down dimension above) (map key_of rows)
