use Rattle.std.proofs.Common.{take}
use Rattle.std.specs.List.{AllZip}
use Rattle.cube_merge.specs.Lawful.{IsOfKind}
use Rattle.cube_merge.proofs.kind.are_of_kind.Given as goal

abbrev pub invariant-loop-place : goal.invariant-loop-place
invariant-loop-place l = AllZip IsOfKind (take l.place l.aggregates) (take l.place l.answers)
