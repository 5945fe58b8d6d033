use Rattle.std.proofs.Common.{take}
use Rattle.std.specs.List.{AllZip}
use Rattle.cube_merge.specs.Lawful.{IsNoneAmong}
use Rattle.cube_merge.proofs.lawful.are_none_together.Given as goal

abbrev pub invariant-loop-place : goal.invariant-loop-place
invariant-loop-place l = AllZip (IsNoneAmong l.aggregates l.answers) (take l.place l.aggregates) (take l.place l.answers)
