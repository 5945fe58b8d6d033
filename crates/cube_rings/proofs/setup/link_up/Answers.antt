use Rattle.std.proofs.Common.{arith, ◌≡◌, ◌∙◌, ap, length, map, drop}
use Rattle.cube_rings.specs.declared.gatherer.Gatherer.{Gatherer}
use Rattle.cube_rings.proofs.PlaceLaws.{take-written_back}
use Rattle.cube_rings.proofs.setup.link_up.Goals as goal

pub feeders_of-requires-clause-none : goal.feeders_of-requires-clause-none
feeders_of-requires-clause-none g c = rw c.as_mut_slice.ensures.value c.in_ok-gatherers.ensures.none

pub returns-clause-linked : goal.returns-clause-linked
returns-clause-linked g c =
    let new = c.feeders_of.new.gatherers in
    let count : length new ≡ c.in_ok-gatherers.gatherers.len =
    omega (arith, c.feeders_of.auto.gatherers, c.as_mut_slice.ensures.len) in
    rw
    (take-written_back new (drop (length new) c.in_ok-gatherers.gatherers.items) c.in_ok-gatherers.gatherers.len count)
    c.in_ok-feeders.ensures.linked

pub returns-clause-builders : goal.returns-clause-builders
returns-clause-builders g c =
    let f = λ (gatherer : Gatherer g.row.B.Denot). gatherer.builder in
    let new = c.feeders_of.new.gatherers in
    let count : length new ≡ c.in_ok-gatherers.gatherers.len =
    omega (arith, c.feeders_of.auto.gatherers, c.as_mut_slice.ensures.len) in
    ap (map f)
    (take-written_back new (drop (length new) c.in_ok-gatherers.gatherers.items) c.in_ok-gatherers.gatherers.len count)
    ∙ c.in_ok-feeders.ensures.builders
    ∙ ap (map f) c.as_mut_slice.ensures.value
    ∙ c.in_ok-gatherers.ensures.builders
