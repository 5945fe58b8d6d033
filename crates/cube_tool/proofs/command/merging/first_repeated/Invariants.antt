use Rattle.std.proofs.Common.{◌<◌, ℕ}
use Rattle.cube_tool.specs.MergingCubes.{StandsBefore}
use Rattle.cube_tool.proofs.command.merging.first_repeated.Given as goal

abbrev pub invariant-loop-place : goal.invariant-loop-place
invariant-loop-place l = (k : ℕ) → k < l.place → StandsBefore l.cubes k → ⊥
