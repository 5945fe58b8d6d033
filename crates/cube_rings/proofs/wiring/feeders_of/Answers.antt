use Rattle.std.proofs.Common.{rules, ◌≡◌, refl, map, ap, sym, ◌∙◌}
use Rattle.std.proofs.lemmas.Iterator.Adapters.{YieldsList-from_vec}
use Rattle.std.proofs.lemmas.Iterator.Consumers.{YieldsList-end}
use Rattle.std.proofs.lemmas.List.{map-append, map-id}
use Rattle.cube_feed.specs.Feed.{rest_of_feed}
use Rattle.cube_rings.proofs.WireLaws.{linked-none, linked-more, builders-connects}
use Rattle.cube_rings.proofs.wiring.feeders_of.Goals as goal

pub loop-reader-init : goal.loop-reader-init
loop-reader-init g c = rw c.in_ok-feeders.ensures.items (linked-none c.args.gatherers.now c.requires.none, refl, refl)

pub loop-reader-preserved : goal.loop-reader-preserved
loop-reader-preserved g c =
    let loop = c.loop-reader in
    let connects = c.in_ok-feeder.ensures.connects in
    let outlets = c.in_ok-feeder.feeder.outlets.items in
    let more =
    linked-more _ loop.gatherers c.feeder_of.new.gatherers outlets loop.invariant.0 connects in (
      rw (c.in_ok-push.ensures.items, map-append) more,
      rw (c.in_ok-push.ensures.items, map-append, map-append, loop.invariant.1) (search rules),
      builders-connects loop.gatherers c.feeder_of.new.gatherers outlets connects
          ∙ loop.invariant.2,
    )

pub returns-clause-feeds : goal.returns-clause-feeds
returns-clause-feeds g c =
    let loop = c.loop-reader in
    let gives = c.into_iter-reader-iterator.ensures.into_iter_gives in
    let ends = YieldsList-end (YieldsList-from_vec c.args.readers.items (search (rules, gives)) (search (rules, gives)))
    loop.yielded loop.reader-iterator loop.yielded_by c.next.result c.next.new.self c.in-None.is c.next.ensures.steps in
    let all : loop.yielded ≡ c.args.readers.items = sym (map-id loop.yielded) ∙ ends.0 in
    loop.invariant.1
    ∙ ap (λ readers. map (λ reader. rest_of_feed c.args.schema.now (g.R.Read.remaining reader)) readers) all
