use Rattle.std.proofs.Common.{◌≡◌}
use Rattle.cube_rings.specs.Gathering.{Gathering, links_ended}
use Rattle.cube_rings.proofs.gathering.gather.Given as goal

abbrev pub invariant-loop : goal.invariant-loop
invariant-loop g l =
    (g.B.TakesItems.sources l.builder ≡ g.B.TakesItems.sources l.initial.builder)
    × Gathering (g.B.TakesItems.stands l.initial.builder) l.initial.inlets l.inlets
    (links_ended l.taken) l.builder l.wanting
