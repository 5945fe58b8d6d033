use Rattle.std.proofs.lemmas.Result.{IfErr-weaker, IfOk-weaker}
use Rattle.std.proofs.Common.{arith, ◌≡◌, ◌≤◌, List, false, ◌∙◌, [], sym, ap, subst, length, get_or, map, vec_len}
use Rattle.std.proofs.lemmas.List.{get_or-map, length-map}
use Rattle.std.specs.List.{All, AllZip}
use Rattle.std.specs.Prelude.{is_err}
use Rattle.cube_core.proofs.ListLaws.{AllZip-length}
use Rattle.cube_rings.specs.Ends.{HasNoStop, IsFirstStop}
use Rattle.cube_rings.specs.Starting.{HasGathered}
use Rattle.cube_feed.specs.Feed.{rest_of_feed}
use Rattle.cube_rings.specs.Settling.{received_by}
use Rattle.cube_rings.specs.declared.fault.FeedingFault.TheVariants as feeding_fault
use Rattle.cube_rings.specs.declared.parcel.FeederEnd.{FeederEnd}
use Rattle.cube_rings.proofs.JoinedLaws.{ready-linked, tell-run, takes-settled, on_ok-then}
use Rattle.cube_rings.proofs.TakeLaws.{AllTell, fit-tell, good-all, explains-stops}
use Rattle.cube_feed.proofs.FaultLaws.{OnOk-holds}
use Rattle.cube_rings.proofs.feeding_all.feed_all.Given.{Over}
use Rattle.cube_rings.proofs.feeding_all.feed_all.Goals.{In-Ok, Else-is_err}
use Rattle.cube_rings.proofs.feeding_all.feed_all.Goals as goal

-- there are the outlets of as many feeders as there are readers
as-many : (g : Over) (c : In-Ok g)
    → length (map (λ f. f.outlets.items) c.in-Ok.setup.feeders.items) ≡ length c.args.readers.items
as-many g c =
    length-map c.in-Ok.setup.feeders.items (λ f. f.outlets.items)
    ∙ sym (length-map c.in-Ok.setup.feeders.items (λ f. f.feed.to_come))
    ∙ ap length c.in-Ok.ensures.feeds
    ∙ length-map c.args.readers.items (λ reader. rest_of_feed c.args.schema.now (g.R.Read.remaining reader))

pub run_together-roster-requires-clause-outlets : goal.run_together-roster-requires-clause-outlets
run_together-roster-requires-clause-outlets g c κs within = λ k d below.
    let setup = c.in-Ok.setup in
    let known = c.in-Ok.ensures in
    let outlets = (get_or setup.feeders.items k d).outlets in
    let at = get_or-map (λ f. f.outlets.items) setup.feeders.items k d [] below in
    let wide = known.linked.widths k (rw (length-map setup.feeders.items (λ f. f.outlets.items)) below) in
    let width : length outlets.items ≡ length setup.gatherers.items = ap length (sym at) ∙ wide in
    let len = outlets.ok.0 in
    let all = setup.gatherers.ok.0 in (
      omega (arith, width, len, all, known.count, c.requires.builders),
      omega (arith, width, len, all, known.count, c.requires.builders),
    )

pub run_together-roster-requires-clause-ready : goal.run_together-roster-requires-clause-ready
run_together-roster-requires-clause-ready g c κs within =
    let known = c.in-Ok.ensures in
    ready-linked g.B.TakesItems.sources g.B.TakesItems.stands
    (vec_len c.args.readers) c.args.builders.items _ c.in-Ok.setup.gatherers.items known.linked
    (as-many g c ∙ sym c.args.readers.ok.0) c.requires.readers.1 known.builders c.requires.new

-- the threads were started
fine : (g : Over) (c : Else-is_err g) → is_err c.run_together-roster.result.1 ≡ false
fine g c = sym c.is_err.ensures.value ∙ c.if-is_err.false

-- each gatherer has gathered
gathered : (g : Over) (c : Else-is_err g) → AllZip (HasGathered g.B.TakesItems.stands)
    c.in-Ok.setup.gatherers.items c.run_together-roster.result.0.gatherers.items
gathered g c = OnOk-holds c.run_together-roster.result.1 _ (fine g c) c.run_together-roster.ensures.gatherers

-- there are as many gatherers after the joins as there were builders
same-count : (g : Over) (c : Else-is_err g)
    → length c.run_together-roster.result.0.gatherers.items ≡ vec_len c.args.builders
same-count g c =
    let count = AllZip-length (HasGathered g.B.TakesItems.stands)
    c.in-Ok.setup.gatherers.items c.run_together-roster.result.0.gatherers.items (gathered g c) in
    omega (arith, count, c.in-Ok.ensures.count, c.in-Ok.setup.gatherers.ok.0)

-- what the ends of the feeders tell of all sources
tell : (g : Over) (c : Else-is_err g) → AllTell c.args.schema.now (map g.R.Read.remaining c.args.readers.items)
    (map received_by c.run_together-roster.result.0.gatherers.items) c.run_together-roster.result.0.ends.items
tell g c =
    let setup = c.in-Ok.setup in
    let known = c.in-Ok.ensures in
    let joined = c.run_together-roster in
    tell-run g.B.TakesItems.stands c.args.schema.now g.R.Read.remaining c.args.readers.items (λ f. f.feed.to_come)
    (λ f. f.outlets.items) setup.feeders.items joined.result.0.ends.items
    setup.gatherers.items joined.result.0.gatherers.items joined.result.1
    (fine g c) known.linked known.feeds joined.ensures.ends joined.ensures.gatherers

-- there are as many ends as there are readers
all-ended : (g : Over) (c : Else-is_err g)
    → length c.run_together-roster.result.0.ends.items ≡ length c.args.readers.items
all-ended g c = (tell g c).all ∙ length-map c.args.readers.items g.R.Read.remaining

pub first_stop-requires : goal.first_stop-requires
first_stop-requires g c =
    let at = goal.at.first_stop-requires g c in
    omega (arith, all-ended g at.Else-is_err, c.args.readers.ok.0, c.requires.readers)

pub returns-in-Some-clause-err : goal.returns-in-Some-clause-err
returns-in-Some-clause-err g c =
    let at = goal.at.returns-in-Some-clause-err g c in
    explains-stops _ _ _ _ 1 (feeding_fault.Feed c.in-Some.source c.in-Some.fault) (tell g at.Else-is_err)
    (subst (λ (ends : List FeederEnd). IsFirstStop ends c.in-Some.source c.in-Some.fault) c.deref.ensures.value
    c.in-Some.ensures.some)

pub settle-requires-clause-good : goal.settle-requires-clause-good
settle-requires-clause-good g c =
    subst (λ (ends : List FeederEnd). All HasNoStop ends) c.deref.ensures.value c.in_default-first_stop.ensures.none

pub settle-requires-clause-fit : goal.settle-requires-clause-fit
settle-requires-clause-fit g c = fit-tell _ _ _ _ (tell g (goal.at.settle-requires-clause-fit g c).Else-is_err)

pub settle-requires-clause-sources : goal.settle-requires-clause-sources
settle-requires-clause-sources g c =
    let at = goal.at.settle-requires-clause-sources g c in
    omega (
      arith,
      all-ended g at.Else-is_err,
      c.args.readers.ok.0,
      c.run_together-roster.result.0.ends.ok.0,
      c.requires.readers,
    )

pub settle-requires-clause-builders : goal.settle-requires-clause-builders
settle-requires-clause-builders g c =
    let at = goal.at.settle-requires-clause-builders g c in
    let all = c.run_together-roster.result.0.gatherers.ok.0 in
    let same = same-count g at.Else-is_err in
    (omega (arith, same, all, c.requires.builders), omega (arith, same, all, c.requires.builders))

pub returns-clause-good : goal.returns-clause-good
returns-clause-good g c =
    let at = goal.at.returns-clause-good g c in
    on_ok-then c.settle.result _ _
    (λ settled settles. good-all _ _ _ _ (tell g at.Else-is_err) settles.good) c.settle.ensures.ok

pub returns-clause-err : goal.returns-clause-err
returns-clause-err g c =
    let at = goal.at.returns-clause-err g c in
    IfErr-weaker c.settle.result _ _ (λ fault stops. explains-stops _ _ _ _
    (vec_len c.run_together-roster.result.0.gatherers) fault (tell g at.Else-is_err) stops) c.settle.ensures.err

pub returns-clause-taken : goal.returns-clause-taken
returns-clause-taken g c =
    let at = goal.at.returns-clause-taken g c in
    let known = c.in-Ok.ensures in
    let counts = as-many g at.In-Ok ∙ sym (length-map c.args.readers.items g.R.Read.remaining) in
    let some : 1 ≤ length c.run_together-roster.result.0.gatherers.items =
    omega (arith, same-count g at.Else-is_err, c.requires.builders) in
    IfOk-weaker c.settle.result _ _
    (λ settled settles.
    takes-settled g.B.TakesItems.stands _ _ _ _ _ _ _ settled.items known.linked counts known.builders
    (gathered g at.Else-is_err) (tell g at.Else-is_err) settles some)
    c.settle.ensures.ok
