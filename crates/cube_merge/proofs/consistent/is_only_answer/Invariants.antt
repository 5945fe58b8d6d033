use Rattle.std.proofs.Common.{take}
use Rattle.std.specs.List.{AllZip}
use Rattle.cube_merge.specs.Lawful.{IsSameAnswer}
use Rattle.cube_merge.proofs.consistent.is_only_answer.Given as goal

abbrev pub invariant-loop-place : goal.invariant-loop-place
invariant-loop-place l = AllZip (IsSameAnswer l.aggregate l.answer) (take l.place l.aggregates) (take l.place l.answers)
