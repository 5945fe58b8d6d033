use Rattle.std.proofs.Common.{rules, length, ◌≡◌, ◌≤◌, ◌+◌, arith, vec_len}
use Rattle.std.specs.Prelude.{vec_capacity}
use Rattle.std.specs.List.{AllZip}
use Rattle.cube_rings.specs.Feeding.{Feeds}
use Rattle.cube_rings.specs.Starting.{HasGathered}
use Rattle.std.proofs.lemmas.Result.{on_ok_weaker}
use Rattle.cube_rings.proofs.KeepLaws.{AllZip-first, holds-OnOk, known-Keeps}
use Rattle.cube_rings.proofs.starting_builders.with_first.Goals as goal

pub keep-requires : goal.keep-requires
keep-requires g c =
    let before = c.args.roster.now.gatherers in
    let room : vec_len before + 1 ≤ vec_capacity before =
    omega (arith, c.requires.start.none, c.requires.start.room) in
    holds-OnOk c.with_feeders-answer.result (rw (← c.with_feeders-answer.ensures.gatherers) at room)

pub returns-clause-gatherers : goal.returns-clause-gatherers
returns-clause-gatherers g c =
    let none : length c.with_feeders-answer.new.roster.gatherers.items ≡ 0 =
    search (rules, c.requires.start.none, c.with_feeders-answer.ensures.gatherers) in
    on_ok_weaker c.keep.result
    (AllZip-first (HasGathered g.B.TakesItems.stands) c.args.gatherer c.with_feeders-answer.new.own
    c.with_feeders-answer.result _ _ none c.with_feeders-answer.ensures.own)
    c.keep.ensures.gatherers

pub returns-clause-ends : goal.returns-clause-ends
returns-clause-ends g c = rw c.keep.ensures.ends
    (known-Keeps
    (AllZip (λ feeder end. Feeds feeder.feed.to_come feeder.outlets.items end) c.args.feeders.items
    c.with_feeders-answer.new.roster.ends.items)
    c.with_feeders-answer.result c.keep.result _ _ _ c.with_feeders-answer.ensures.ends c.keep.ensures.gatherers)

pub returns-clause-room : goal.returns-clause-room
returns-clause-room g c =
    holds-OnOk c.keep.result (rw c.with_feeders-answer.ensures.gatherers at c.keep.ensures.room)
