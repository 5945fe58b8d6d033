use Rattle.std.proofs.Common.{◌≡◌, ◌++◌}
use Rattle.cube_cells.specs.BottomUp.{cells_of_items}
use Rattle.cube_cells.specs.Ranking.{ranked_cells}
use Rattle.cube_cells.proofs.cube.finest_cells.items_of.Given as goal

abbrev pub invariant-loop-codes : goal.invariant-loop-codes
invariant-loop-codes g l =
    (goal.iterator-loop-codes g).can_next l.codes-iterator
    × (goal.iterator-loop-codes g).is_finite l.codes-iterator
    × (cells_of_items l.items.items ++ ranked_cells l.ranked l.codes-iterator ≡ ranked_cells l.ranked l.fn.cells.entries)
