use Rattle.std.proofs.Common.{take}
use Rattle.std.specs.List.{AllZip}
use Rattle.cube_merge.specs.Lawful.{TellsNone}
use Rattle.cube_merge.proofs.lawful.are_none.Given as goal

abbrev pub invariant-loop-place : goal.invariant-loop-place
invariant-loop-place l = AllZip (TellsNone l.measure) (take l.place l.aggregates) (take l.place l.answers)
