use Rattle.std.proofs.Common.{take}
use Rattle.std.specs.List.{AllZip}
use Rattle.cube_merge.specs.Lawful.{IsAtLeast}
use Rattle.cube_merge.proofs.lawful.is_least.Given as goal

abbrev pub invariant-loop-place : goal.invariant-loop-place
invariant-loop-place l = AllZip (IsAtLeast l.measure l.least) (take l.place l.aggregates) (take l.place l.answers)
