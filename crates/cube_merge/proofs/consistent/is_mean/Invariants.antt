use Rattle.std.proofs.Common.{take}
use Rattle.std.specs.List.{AllZip}
use Rattle.cube_merge.specs.Lawful.{IsMeanOfSum}
use Rattle.cube_merge.proofs.consistent.is_mean.Given as goal

abbrev pub invariant-loop-place : goal.invariant-loop-place
invariant-loop-place l = AllZip (IsMeanOfSum l.aggregates l.answers l.measure l.mean) (take l.place l.aggregates) (take l.place l.answers)
