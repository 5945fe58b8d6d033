use Rattle.cube_rings.proofs.SettleLaws.{AllHeldBelow}
use Rattle.cube_rings.proofs.settling.hold_all.Given as goal

abbrev pub invariant-loop-builder : goal.invariant-loop-builder
invariant-loop-builder g l = AllHeldBelow l.builder l.fn.ends.items l.ends.items l.fn.gatherers.items l.gatherers.items
