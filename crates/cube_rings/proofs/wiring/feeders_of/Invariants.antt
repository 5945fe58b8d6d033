use Rattle.std.proofs.Common.{◌≡◌, map}
use Rattle.cube_feed.specs.Feed.{rest_of_feed}
use Rattle.cube_rings.specs.Wiring.{AreLinked}
use Rattle.cube_rings.proofs.wiring.feeders_of.Given as goal

abbrev pub invariant-loop-reader : goal.invariant-loop-reader
invariant-loop-reader g l =
    AreLinked (map (λ feeder. feeder.outlets.items) l.feeders.items) l.gatherers
    × (map (λ feeder. feeder.feed.to_come) l.feeders.items
    ≡ map (λ reader. rest_of_feed l.schema (g.R.Read.remaining reader)) l.yielded)
    × (map (λ gatherer. gatherer.builder) l.gatherers ≡ map (λ gatherer. gatherer.builder) l.initial.gatherers)
