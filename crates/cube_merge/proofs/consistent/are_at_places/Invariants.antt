use Rattle.std.proofs.Common.{take}
use Rattle.std.specs.List.{AllZip}
use Rattle.cube_merge.specs.Lawful.{IsAtPlace}
use Rattle.cube_merge.proofs.consistent.are_at_places.Given as goal

abbrev pub invariant-loop-place : goal.invariant-loop-place
invariant-loop-place l =
    AllZip (IsAtPlace l.places l.answers) (take l.place l.aggregates) (take l.place l.answers)
