use Rattle.std.proofs.Common.{take}
use Rattle.cube_cells.specs.BottomUp.{AreUnited, cells_of_items, cells_of_lent}
use Rattle.cube_cells.proofs.cube.bottom_up.joined.Given as goal

abbrev pub invariant-loop-one : goal.invariant-loop-one
invariant-loop-one g l = AreUnited (cells_of_lent (take l.one-index l.lent)) (cells_of_items l.joined.items)
