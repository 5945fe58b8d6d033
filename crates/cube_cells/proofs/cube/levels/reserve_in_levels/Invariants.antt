use Rattle.std.specs.List.{AllZip}
use Rattle.cube_cells.specs.Levels.{IsReordered}
use Rattle.cube_cells.proofs.cube.levels.reserve_in_levels.Given as goal

abbrev pub invariant-loop-place : goal.invariant-loop-place
invariant-loop-place g l = AllZip IsReordered l.fn.levels l.levels
