use Rattle.std.proofs.Common.{rules, ◌≡◌}
use Rattle.std.proofs.lemmas.Cmp.{nat_list_cmp_total}
use Rattle.std.proofs.lemmas.List.Sorted.{IsPermutation-map, All-permutation}
use Rattle.cube_cells.specs.Ranks.{ranks_of}
use Rattle.cube_cells.proofs.Codes.RankLaws.{IsSortedBy-key}
use Rattle.cube_cells.proofs.cube.rows.places_in_order.Goals as goal

pub returns-clause-cells : goal.returns-clause-cells
returns-clause-cells c = rw (← c.in_ok-places.ensures.cells_are)
    (IsPermutation-map (λ place. (place.codes.now, place.cell.now))
    c.in_ok-places.places.items c.sort_unstable_by.new.self.items c.sort_unstable_by.ensures.permutation)

pub returns-clause-ranks : goal.returns-clause-ranks
returns-clause-ranks c =
    All-permutation (λ place. place.ranks ≡ ranks_of c.args.ranks.now place.codes.now.codes) c.in_ok-places.places.items
    c.sort_unstable_by.new.self.items c.sort_unstable_by.ensures.permutation c.in_ok-places.ensures.ranks_are

pub returns-clause-order : goal.returns-clause-order
returns-clause-order c = IsSortedBy-key nat_list_cmp_total
    (λ place. place.ranks) c.sort_unstable_by.new.self.items c.sort_unstable_by.ensures.sorted (λ a r q k. search rules)
