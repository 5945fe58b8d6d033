use Rattle.std.proofs.Common.{take}
use Rattle.std.specs.List.{AllZip}
use Rattle.cube_merge.specs.Lawful.{IsOnlyAnswer}
use Rattle.cube_merge.proofs.consistent.is_each_alike.Given as goal

abbrev pub invariant-loop-place : goal.invariant-loop-place
invariant-loop-place l = AllZip (IsOnlyAnswer l.aggregates l.answers) (take l.place l.aggregates) (take l.place l.answers)
