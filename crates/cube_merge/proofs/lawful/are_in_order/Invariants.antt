use Rattle.std.proofs.Common.{take}
use Rattle.std.specs.List.{AllZip}
use Rattle.cube_merge.specs.Lawful.{IsWithin}
use Rattle.cube_merge.proofs.lawful.are_in_order.Given as goal

abbrev pub invariant-loop-place : goal.invariant-loop-place
invariant-loop-place l = AllZip (IsWithin l.aggregates l.answers) (take l.place l.aggregates) (take l.place l.answers)
