use Rattle.std.proofs.Common.{◌≡◌}
use Rattle.cube_rings.specs.Gathering.{Looks}
use Rattle.cube_rings.proofs.gathering.visit.Given as goal

abbrev pub invariant-loop : goal.invariant-loop
invariant-loop g l =
    (g.B.TakesItems.sources l.builder ≡ g.B.TakesItems.sources l.initial.builder)
    × Looks g.B.TakesItems.stands l.link.source l.initial.inlet l.inlet l.taken.ended l.initial.builder l.builder
    l.initial.wanting l.wanting
