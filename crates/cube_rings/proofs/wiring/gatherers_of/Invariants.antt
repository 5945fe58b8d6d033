use Rattle.std.proofs.Common.{◌≡◌, [], map}
use Rattle.std.specs.List.{All}
use Rattle.cube_rings.proofs.wiring.gatherers_of.Given as goal

abbrev pub invariant-loop-builder : goal.invariant-loop-builder
invariant-loop-builder g l =
    (map (λ gatherer. gatherer.builder) l.gatherers.items ≡ l.yielded)
    × All (λ gatherer. gatherer.inlets.items ≡ []) l.gatherers.items
