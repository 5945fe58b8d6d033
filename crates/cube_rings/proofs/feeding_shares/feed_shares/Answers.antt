use Rattle.std.proofs.lemmas.Result.{IfErr-weaker, IfOk-weaker}
use Rattle.std.proofs.Common.{arith, ◌≡◌, ◌≤◌, ◌∷◌, List, false, ◌∙◌, [], sym, ap, subst, length, get_or, map, vec_len}
use Rattle.std.proofs.lemmas.List.{get_or-map, length-map}
use Rattle.std.specs.List.{All, AllZip}
use Rattle.std.specs.Prelude.{is_err}
use Rattle.cube_feed.proofs.FaultLaws.{OnOk-holds}
use Rattle.cube_rings.specs.Ends.{HasNoStop, IsFirstStop}
use Rattle.cube_rings.specs.Shares.{StandInShares}
use Rattle.cube_rings.specs.Starting.{HasGathered}
use Rattle.cube_rings.specs.Settling.{received_by}
use Rattle.cube_feed.specs.Feed.{rest_of_feed}
use Rattle.cube_rings.proofs.JoinedLaws.{EndsOf, ends-joined, map-told, tell-ends, tell-joined, takes-settled}
use Rattle.cube_rings.proofs.JoinedLaws.{on_ok-then}
use Rattle.cube_rings.proofs.ShareLaws.{gathered-whole}
use Rattle.cube_rings.proofs.TakeLaws.{AllTell, fit-tell, good-all, explains-stops}
use Rattle.cube_rings.specs.declared.fault.FeedingFault.TheVariants as feeding_fault
use Rattle.cube_rings.specs.declared.parcel.FeederEnd.{FeederEnd}
use Rattle.cube_rings.proofs.feeding_shares.feed_shares.Given.{Over}
use Rattle.cube_rings.proofs.feeding_shares.feed_shares.Goals.{In-Ok, Else-is_err, In-Ok-whole_of}
use Rattle.cube_rings.proofs.feeding_shares.feed_shares.Goals as goal

-- there are the outlets of as many feeders as there are readers
as-many : (g : Over) (c : In-Ok g)
    → length (map (λ f. f.outlets.items) c.in-Ok.setup.feeders.items) ≡ length c.args.readers.items
as-many g c =
    length-map c.in-Ok.setup.feeders.items (λ f. f.outlets.items)
    ∙ sym (length-map c.in-Ok.setup.feeders.items (λ f. f.feed.to_come))
    ∙ ap length c.in-Ok.ensures.feeds
    ∙ length-map c.args.readers.items (λ reader. rest_of_feed c.args.schema.now (g.R.Read.remaining reader))

pub run_together-roster-requires-clause-outlets : goal.run_together-roster-requires-clause-outlets
run_together-roster-requires-clause-outlets g c κs within = λ k d below.
    let setup = c.in-Ok.setup in
    let outlets = (get_or setup.feeders.items k d).outlets in
    let at = get_or-map (λ f. f.outlets.items) setup.feeders.items k d [] below in
    let wide = c.in-Ok.ensures.linked.linked.widths k
    (rw (length-map setup.feeders.items (λ f. f.outlets.items)) below) in
    let width : length outlets.items ≡ 1 = ap length (sym at) ∙ wide in
    (omega (arith, width, outlets.ok.0), omega (arith, width, outlets.ok.0))

-- the threads were started
fine : (g : Over) (c : Else-is_err g) → is_err c.run_together-roster.result.1 ≡ false
fine g c = sym c.is_err.ensures.value ∙ c.if-is_err.false

-- what the end of each feeder is
joined : (g : Over) (c : Else-is_err g) → EndsOf (map (λ f. f.feed.to_come) c.in-Ok.setup.feeders.items)
    (map (λ f. f.outlets.items) c.in-Ok.setup.feeders.items) c.run_together-roster.result.0.ends.items
joined g c =
    ends-joined (λ f. f.feed.to_come) (λ f. f.outlets.items) c.in-Ok.setup.feeders.items
    c.run_together-roster.result.0.ends.items
    (OnOk-holds c.run_together-roster.result.1 _ (fine g c) c.run_together-roster.ensures.ends)

-- what was to come of each feed
rests : (g : Over) (c : In-Ok g) → map (λ f. f.feed.to_come) c.in-Ok.setup.feeders.items
    ≡ map (rest_of_feed c.args.schema.now) (map g.R.Read.remaining c.args.readers.items)
rests g c =
    c.in-Ok.ensures.feeds ∙ map-told g.R.Read.remaining (rest_of_feed c.args.schema.now) c.args.readers.items

-- what the ends of the feeders tell of the feeds of all sources
feeds : (g : Over) (c : Else-is_err g) → AllTell c.args.schema.now (map g.R.Read.remaining c.args.readers.items)
    [] c.run_together-roster.result.0.ends.items
feeds g c =
    tell-ends c.args.schema.now (map g.R.Read.remaining c.args.readers.items)
    (map (λ f. f.feed.to_come) c.in-Ok.setup.feeders.items) (map (λ f. f.outlets.items) c.in-Ok.setup.feeders.items)
    c.run_together-roster.result.0.ends.items (rests g (goal.at.Else-is_err g c).In-Ok) (joined g c)

-- there are as many ends as there are readers
all-ended : (g : Over) (c : Else-is_err g)
    → length c.run_together-roster.result.0.ends.items ≡ length c.args.readers.items
all-ended g c = (feeds g c).all ∙ length-map c.args.readers.items g.R.Read.remaining

-- all shares together have gathered
gathered : (g : Over) (c : In-Ok-whole_of g)
    → AllZip (HasGathered (StandInShares g.B.TakesItems.sources g.B.TakesItems.stands))
    (c.in-Ok.ensures.linked.whole ∷ []) c.in-Ok-whole_of.wholes.items
gathered g c =
    let linked = c.in-Ok.ensures.linked in
    let wholes = c.in-Ok-whole_of.ensures in
    subst (AllZip (HasGathered (StandInShares g.B.TakesItems.sources g.B.TakesItems.stands)) (linked.whole ∷ []))
    (sym wholes.one) (
      gathered-whole g.B.TakesItems.sources g.B.TakesItems.stands c.in-Ok.setup.gatherers.items
          c.run_together-roster.result.0.gatherers.items linked.whole wholes.whole linked.cut wholes.is
          (OnOk-holds c.run_together-roster.result.1 _ (fine g (goal.at.In-Ok-whole_of g c).Else-is_err)
          c.run_together-roster.ensures.gatherers) c.in-Ok.ensures.sources,
      tt,
    )

-- what the ends of the feeders tell of all sources
tell : (g : Over) (c : In-Ok-whole_of g) → AllTell c.args.schema.now (map g.R.Read.remaining c.args.readers.items)
    (map received_by c.in-Ok-whole_of.wholes.items) c.run_together-roster.result.0.ends.items
tell g c =
    let at = goal.at.In-Ok-whole_of g c in
    let linked = c.in-Ok.ensures.linked in
    tell-joined (StandInShares g.B.TakesItems.sources g.B.TakesItems.stands) c.args.schema.now
    (map g.R.Read.remaining c.args.readers.items) (map (λ f. f.feed.to_come) c.in-Ok.setup.feeders.items)
    (map (λ f. f.outlets.items) c.in-Ok.setup.feeders.items) c.run_together-roster.result.0.ends.items
    (linked.whole ∷ []) c.in-Ok-whole_of.wholes.items linked.linked (rests g at.In-Ok) (joined g at.Else-is_err)
    (gathered g c)

pub first_stop-requires : goal.first_stop-requires
first_stop-requires g c =
    let at = goal.at.first_stop-requires g c in
    omega (arith, all-ended g at.Else-is_err, c.args.readers.ok.0, c.requires.readers)

pub settle-requires-clause-sources : goal.settle-requires-clause-sources
settle-requires-clause-sources g c =
    let at = goal.at.settle-requires-clause-sources g c in
    omega (
      arith,
      all-ended g at.Else-is_err,
      c.args.readers.ok.0,
      c.run_together-roster.result.0.ends.ok.0,
      c.requires.readers,
    )

pub settle-requires-clause-fit : goal.settle-requires-clause-fit
settle-requires-clause-fit g c = fit-tell _ _ _ _ (tell g (goal.at.settle-requires-clause-fit g c).In-Ok-whole_of)

pub settle-requires-clause-good : goal.settle-requires-clause-good
settle-requires-clause-good g c =
    subst (λ (ends : List FeederEnd). All HasNoStop ends) c.deref.ensures.value c.in_default-first_stop.ensures.none

pub returns-in-Some-clause-err : goal.returns-in-Some-clause-err
returns-in-Some-clause-err g c =
    let at = goal.at.returns-in-Some-clause-err g c in
    explains-stops _ _ _ _ 1 (feeding_fault.Feed c.in-Some.source c.in-Some.fault) (feeds g at.Else-is_err)
    (subst (λ (ends : List FeederEnd). IsFirstStop ends c.in-Some.source c.in-Some.fault) c.deref.ensures.value
    c.in-Some.ensures.some)

pub returns-in_default-whole_of-clause-err : goal.returns-in_default-whole_of-clause-err
returns-in_default-whole_of-clause-err g c =
    let at = goal.at.returns-in_default-whole_of-clause-err g c in
    good-all _ _ _ _ (feeds g at.Else-is_err)
    (subst (λ (ends : List FeederEnd). All HasNoStop ends) c.deref.ensures.value c.in_default-first_stop.ensures.none)

pub returns-clause-good : goal.returns-clause-good
returns-clause-good g c =
    let at = goal.at.returns-clause-good g c in
    on_ok-then c.settle.result _ _
    (λ settled settles. good-all _ _ _ _ (feeds g at.Else-is_err) settles.good) c.settle.ensures.ok

pub returns-clause-err : goal.returns-clause-err
returns-clause-err g c =
    let at = goal.at.returns-clause-err g c in
    IfErr-weaker c.settle.result _ _
    (λ fault stops. explains-stops _ _ _ _ (vec_len c.in-Ok-whole_of.wholes) fault (feeds g at.Else-is_err) stops)
    c.settle.ensures.err

pub returns-clause-taken : goal.returns-clause-taken
returns-clause-taken g c =
    let at = goal.at.returns-clause-taken g c in
    let linked = c.in-Ok.ensures.linked in
    let counts = as-many g at.In-Ok ∙ sym (length-map c.args.readers.items g.R.Read.remaining) in
    let some : 1 ≤ length c.in-Ok-whole_of.wholes.items = omega (arith, ap length c.in-Ok-whole_of.ensures.one) in
    IfOk-weaker c.settle.result _ _
    (λ settled settles.
    takes-settled (StandInShares g.B.TakesItems.sources g.B.TakesItems.stands) _ _ _ _ _ _ _ settled.items linked.linked
    counts (ap (λ builder. builder ∷ []) linked.builder) (gathered g at.In-Ok-whole_of) (tell g at.In-Ok-whole_of)
    settles some)
    c.settle.ensures.ok
