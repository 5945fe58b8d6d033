use Rattle.cube_rings.proofs.SettleLaws.{HeldBelow}
use Rattle.cube_rings.proofs.settling.hold_builder.Given as goal

abbrev pub invariant-loop-source : goal.invariant-loop-source
invariant-loop-source l =
    HeldBelow l.source l.builder l.initial.ends.items l.ends.items l.initial.inlets.items l.inlets.items
