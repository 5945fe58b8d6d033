use Rattle.std.proofs.Common.{take}
use Rattle.std.specs.List.{AllZip}
use Rattle.cube_merge.specs.Lawful.{IsMeanAmong}
use Rattle.cube_merge.proofs.consistent.are_means.Given as goal

abbrev pub invariant-loop-place : goal.invariant-loop-place
invariant-loop-place l = AllZip (IsMeanAmong l.aggregates l.answers) (take l.place l.aggregates) (take l.place l.answers)
