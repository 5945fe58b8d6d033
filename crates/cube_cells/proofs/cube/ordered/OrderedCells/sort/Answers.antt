use Rattle.std.proofs.Common.{◌≤◌, ◌≡◌, rules, refl, true, length}
use Rattle.std.specs.List.{list_all}
use Rattle.std.specs.Ordering.{is_lt}
use Rattle.std.proofs.lemmas.List.Sorted.{All-permutation, IsPermutation-map}
use Rattle.cube_core.specs.Layout.{is_aggregate_of}
use Rattle.cube_core.specs.Order.{key_cmp}
use Rattle.cube_core.specs.declared.key.Key.{Key}
use Rattle.cube_core.proofs.KeyOrderLaws.{key_cmp-IsTotalOrder}
use Rattle.cube_cells.specs.Codes.{key_at}
use Rattle.cube_cells.specs.Tally.{Tally}
use Rattle.cube_cells.specs.declared.cube.ordered.Coded.{Coded}
use Rattle.cube_cells.proofs.Codes.RankLaws.{IsSortedBy-key}
use Rattle.cube_cells.proofs.Rows.RowLaws.{IsSortedBy-map}
use Rattle.cube_cells.proofs.cube.ordered.OrderedCells.sort.Goals as goal

abbrev cell_of : Coded → Key × Tally
cell_of p = (key_at p.dictionaries.now p.codes.now.codes, p.cell.now)

pub invariant_of-self : goal.invariant_of-self
invariant_of-self c =
    All-permutation (λ (p : Coded). (length p.dictionaries.now ≤ 8)
    × (list_all (is_aggregate_of (length p.cell.now.bags)) c.self.inside.aggregates.now ≡ true))
    c.self.inside.cells.items c.sort_by.new.self.items c.sort_by.ensures.permutation c.self.invariant

pub invariant_of-self-2 : goal.invariant_of-self-2
invariant_of-self-2 c =
    All-permutation (λ (p : Coded). (length p.dictionaries.now ≤ 8)
    × (list_all (is_aggregate_of (length p.cell.now.bags)) c.self.inside.aggregates.now ≡ true))
    c.self.inside.cells.items c.sort_by.new.self.items c.sort_by.ensures.permutation c.self.invariant

pub returns-clause-same : goal.returns-clause-same
returns-clause-same c = rw (← c.self.view_is)
    (IsPermutation-map cell_of c.self.inside.cells.items c.sort_by.new.self.items c.sort_by.ensures.permutation)

pub returns-clause-order : goal.returns-clause-order
returns-clause-order c =
    IsSortedBy-map cell_of (λ a b. is_lt (key_cmp (cell_of a).0 (cell_of b).0))
    (λ a b. is_lt (key_cmp a.0 b.0)) c.sort_by.new.self.items (λ a b in_a in_b. refl)
    (IsSortedBy-key key_cmp-IsTotalOrder
    (λ coded. (cell_of coded).0) c.sort_by.new.self.items c.in_ok-sort_by.ensures.sorted (λ a r q k. search rules))
