use Rattle.std.proofs.Common.{◌≡◌, take}
use Rattle.cube_cells.specs.BottomUp.{cells_of_items, cells_of_lent, raise}
use Rattle.cube_cells.specs.Ranges.{items_in}
use Rattle.cube_cells.proofs.cube.ranges.lent_in_range.Given as goal

abbrev pub invariant-loop-item : goal.invariant-loop-item
invariant-loop-item g l = cells_of_lent l.lent.items
    ≡ raise l.from (items_in l.marks l.from l.range (cells_of_items (take l.item-index l.items)))
