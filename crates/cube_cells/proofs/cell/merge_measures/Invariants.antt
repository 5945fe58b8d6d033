use Rattle.std.proofs.Common.{take}
use Rattle.cube_cells.specs.Tally.{AddsBags}
use Rattle.cube_cells.proofs.cell.merge_measures.Given as goal

abbrev pub invariant-loop-place : goal.invariant-loop-place
invariant-loop-place g l = AddsBags l.initial.measures l.measures (take l.place l.more)
