use Rattle.cube_cells.specs.Levels.{TakesInLevel, ChangesFirst}
use Rattle.cube_cells.proofs.cube.walk.take_from_sets.Given as goal

abbrev pub invariant-loop-place : goal.invariant-loop-place
invariant-loop-place l = ChangesFirst (TakesInLevel l.codes l.values) l.place l.initial.levels l.levels
