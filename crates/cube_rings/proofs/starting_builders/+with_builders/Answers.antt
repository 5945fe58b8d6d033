use Rattle.std.proofs.Common.{arith, sym, ◌∷◌, [], ◌∙◌, ℕ, vec_len}
use Rattle.std.proofs.lemmas.Bool.{eqb-true}
use Rattle.std.proofs.lemmas.List.{nil_from_length}
use Rattle.std.proofs.lemmas.Result.{on_ok_weaker}
use Rattle.std.specs.List.{AllZip}
use Rattle.cube_rings.specs.Feeding.{Feeds}
use Rattle.cube_rings.specs.Starting.{MayStart, IsReady, HasGathered}
use Rattle.cube_rings.specs.declared.roster.Roster.{Roster}
use Rattle.cube_rings.proofs.KeepLaws.{AllZip-Keeps, grows-Keeps, known-Keeps, room-kept}
use Rattle.cube_rings.proofs.PlaceLaws.{All-append_front, All-append_last, length-last}
use Rattle.cube_rings.proofs.starting_builders.+with_builders.Goals as goal

-- where several builders may be started, one may
may_start-one : {B : Type 0} (builders feeders : ℕ) (roster : Roster B) → MayStart builders feeders roster
    → MayStart 1 feeders roster
may_start-one builders feeders roster start = record {
  one = omega arith;
  few = omega arith;
  none = start.none;
  room = omega (arith, start.one, start.room);
  for_feeders = record {
    most = start.for_feeders.most;
    none = start.for_feeders.none;
    room = start.for_feeders.room;
    posts = omega (arith, start.one, start.for_feeders.posts);
  };
}

pub start-requires-clause-ready : goal.start-requires-clause-ready
start-requires-clause-ready g t c κs within =
    let whole = rw c.unwrap-gatherer.ensures at c.pop.ensures.items in
    All-append_last (IsReady g.B.TakesItems.sources g.B.TakesItems.stands) c.pop.new.self.items c.unwrap-gatherer.result
    (rw whole at c.requires.ready)

pub with_builders-answer-requires-clause-ready : goal.with_builders-answer-requires-clause-ready
with_builders-answer-requires-clause-ready g t c κs within =
    let whole = rw c.unwrap-gatherer.ensures at c.pop.ensures.items in
    All-append_front c.pop.new.self.items (c.unwrap-gatherer.result ∷ [])
    (IsReady g.B.TakesItems.sources g.B.TakesItems.stands) (rw whole at c.requires.ready)

pub returns-clause-gatherers : goal.returns-clause-gatherers
returns-clause-gatherers g t c =
    let whole = rw c.unwrap-gatherer.ensures at c.pop.ensures.items in
    let promised = rw c.in-Some.is at c.start.ensures in
    on_ok_weaker c.keep.result
    (AllZip-Keeps (HasGathered g.B.TakesItems.stands) c.args.builders.items c.pop.new.self.items
    c.unwrap-gatherer.result c.with_builders-answer.result c.join.result _ _ whole
    c.with_builders-answer.ensures.gatherers (rw promised at c.join.ensures))
    c.keep.ensures.gatherers

pub returns-clause-ends : goal.returns-clause-ends
returns-clause-ends g t c = rw c.keep.ensures.ends
    (known-Keeps
    (AllZip (λ feeder end. Feeds feeder.feed.to_come feeder.outlets.items end) c.args.feeders.items
    c.with_builders-answer.new.roster.ends.items)
    c.with_builders-answer.result c.keep.result c.join.result _ _ c.with_builders-answer.ensures.ends
    c.keep.ensures.gatherers)

pub returns-clause-room : goal.returns-clause-room
returns-clause-room g t c =
    grows-Keeps c.with_builders-answer.result c.keep.result c.join.result _ _ _ _ _
    c.with_builders-answer.ensures.room c.keep.ensures.room c.keep.ensures.gatherers

pub returns-then-is_empty-clause-gatherers : goal.returns-then-is_empty-clause-gatherers
returns-then-is_empty-clause-gatherers g t c =
    let whole = rw c.unwrap-gatherer.ensures at c.pop.ensures.items in
    let rest = c.pop.new.self in
    let none = nil_from_length rest.items
    (sym rest.ok.0 ∙ eqb-true (vec_len rest) 0 (sym c.is_empty.ensures ∙ c.if-is_empty.true)) in
    rw (whole, none) c.with_first.ensures.gatherers

pub with_first-requires-clause-ready : goal.with_first-requires-clause-ready
with_first-requires-clause-ready g t c κs within =
    let whole = rw c.unwrap-gatherer.ensures at c.pop.ensures.items in
    All-append_last (IsReady g.B.TakesItems.sources g.B.TakesItems.stands) c.pop.new.self.items c.unwrap-gatherer.result
    (rw whole at c.requires.ready)

pub with_first-requires-clause-start : goal.with_first-requires-clause-start
with_first-requires-clause-start g t c κs within = may_start-one _ _ _ c.requires.start

pub keep-requires : goal.keep-requires
keep-requires g t c =
    let whole = rw c.unwrap-gatherer.ensures at c.pop.ensures.items in
    room-kept _ c.pop.new.self.items c.with_builders-answer.new.roster.gatherers.items c.with_builders-answer.result
    c.args.builders.len _ _ _
    (c.args.builders.ok.0 ∙ length-last c.args.builders.items c.pop.new.self.items c.unwrap-gatherer.result whole)
    c.with_builders-answer.new.roster.gatherers.ok.0 c.requires.start.room c.with_builders-answer.ensures.gatherers
    c.with_builders-answer.ensures.room
