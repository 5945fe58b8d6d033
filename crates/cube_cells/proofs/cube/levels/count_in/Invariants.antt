use Rattle.std.proofs.Common.{◌≡◌, length, take}
use Rattle.cube_cells.specs.Levels.{cells_of}
use Rattle.cube_cells.proofs.cube.levels.count_in.Given as goal

abbrev pub invariant-loop-level : goal.invariant-loop-level
invariant-loop-level g l = l.number ≡ length (cells_of (take l.level-index l.levels))
