use Rattle.std.proofs.Common.{◌≡◌, drop}
use Rattle.cube_cells.specs.Levels.{table_at}
use Rattle.cube_cells.proofs.cube.walk.find_cell.Given as goal

abbrev pub invariant-loop-level : goal.invariant-loop-level
invariant-loop-level g l = table_at (drop l.level-index l.levels) l.codes ≡ table_at l.levels l.codes
