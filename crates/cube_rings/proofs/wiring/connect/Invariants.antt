use Rattle.cube_rings.specs.Wiring.{ConnectsFirst}
use Rattle.cube_rings.proofs.wiring.connect.Given as goal

abbrev pub invariant-loop-gatherer : goal.invariant-loop-gatherer
invariant-loop-gatherer g l = ConnectsFirst l.gatherer-index l.initial.gatherers l.gatherers l.outlets.items
