use Rattle.std.proofs.Common.{◌≡◌, take}
use Rattle.cube_cells.specs.BottomUp.{cells_of_items, cells_of_lent, raise}
use Rattle.cube_cells.proofs.cube.bottom_up.lent_with_all.Given as goal

abbrev pub invariant-loop-item : goal.invariant-loop-item
invariant-loop-item g l = cells_of_lent l.lent.items ≡ raise l.from (cells_of_items (take l.item-index l.items))
