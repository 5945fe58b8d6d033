use Rattle.std.proofs.Common.{take}
use Rattle.std.specs.List.{AllZip}
use Rattle.cube_merge.specs.Lawful.{AreAlike, IsVarianceAmong}
use Rattle.cube_merge.proofs.consistent.are_variances.Given as goal

abbrev pub invariant-loop-place : goal.invariant-loop-place
invariant-loop-place l =
    AreAlike l.aggregates l.answers
    → AllZip (IsVarianceAmong l.aggregates l.answers) (take l.place l.aggregates) (take l.place l.answers)
