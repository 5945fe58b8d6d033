use Rattle.cube_cells.specs.Levels.{AddsInLevel, ChangesFirst}
use Rattle.cube_cells.proofs.cube.walk.gather_in_sets.Given as goal

abbrev pub invariant-loop-place : goal.invariant-loop-place
invariant-loop-place g l = ChangesFirst (AddsInLevel l.codes l.values) l.place l.initial.levels l.levels
