use Rattle.std.proofs.Common.{rules}
use Rattle.std.proofs.lemmas.List.Sorted.{IsPermutation-map}
use Rattle.cube_core.proofs.KeyOrderLaws.{key_cmp-IsTotalOrder}
use Rattle.cube_cells.specs.Codes.{key_at}
use Rattle.cube_cells.proofs.Codes.RankLaws.{IsSortedBy-key}
use Rattle.cube_cells.proofs.cube.rows.few_places_in_order.Goals as goal

pub returns-clause-cells : goal.returns-clause-cells
returns-clause-cells c = rw (← c.in_ok-places.ensures.cells_are)
    (IsPermutation-map (λ place. (place.codes.now, place.cell.now))
    c.in_ok-places.places.items c.sort_unstable_by.new.self.items c.sort_unstable_by.ensures.permutation)

pub returns-clause-order : goal.returns-clause-order
returns-clause-order c =
    IsSortedBy-key key_cmp-IsTotalOrder (λ place. key_at c.args.dictionaries.now place.codes.now.codes)
    c.sort_unstable_by.new.self.items c.sort_unstable_by.ensures.sorted (λ a r q k. search rules)
