use Rattle.std.proofs.Common.{take}
use Rattle.std.specs.List.{AllZip}
use Rattle.cube_merge.specs.Lawful.{CountsFacts}
use Rattle.cube_merge.proofs.lawful.count_facts.Given as goal

abbrev pub invariant-loop-place : goal.invariant-loop-place
invariant-loop-place l = AllZip CountsFacts (take l.place l.aggregates) (take l.place l.answers)
