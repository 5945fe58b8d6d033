use Rattle.std.proofs.Common.{◌≡◌, ◌++◌, map, take, drop}
use Rattle.cube_build.specs.Interest.{gathered_of_interest}
use Rattle.cube_build.proofs.building.keep_of_interest.Given as goal

abbrev pub invariant-loop-gatherer : goal.invariant-loop-gatherer
invariant-loop-gatherer l = l.gatherers
    ≡ map (gathered_of_interest l.conditions) (take l.gatherer-index l.initial.gatherers)
    ++ drop l.gatherer-index l.initial.gatherers
