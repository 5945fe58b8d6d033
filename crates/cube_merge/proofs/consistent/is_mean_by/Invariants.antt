use Rattle.std.proofs.Common.{take}
use Rattle.std.specs.List.{AllZip}
use Rattle.cube_merge.specs.Lawful.{IsMeanByCount}
use Rattle.cube_merge.proofs.consistent.is_mean_by.Given as goal

abbrev pub invariant-loop-place : goal.invariant-loop-place
invariant-loop-place l = AllZip (IsMeanByCount l.measure l.mean l.sum) (take l.place l.aggregates) (take l.place l.answers)
