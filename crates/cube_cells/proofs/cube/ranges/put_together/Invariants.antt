use Rattle.std.proofs.Common.{◌≡◌, ◌++◌}
use Rattle.cube_cells.specs.BottomUp.{cells_of_items}
use Rattle.cube_cells.specs.WalkParts.{cells_of_lists, put_together}
use Rattle.cube_cells.proofs.cube.ranges.put_together.Given as goal

abbrev pub invariant-loop-list : goal.invariant-loop-list
invariant-loop-list g l = cells_of_items l.all.items ++ put_together (cells_of_lists l.list-iterator.rest.items)
    ≡ put_together (cells_of_lists l.fn.lists.items)
