use Rattle.std.proofs.Common.{take}
use Rattle.cube_cells.specs.Merged.{IsRecoded}
use Rattle.cube_cells.proofs.cube.merged.recoded_column.Given as goal

abbrev pub invariant-loop-place : goal.invariant-loop-place
invariant-loop-place l = IsRecoded l.fn.dictionary (take l.place l.more) l.column
