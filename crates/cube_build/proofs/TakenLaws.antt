-- What one builder took, over the finest grouping set alone.
use Rattle.std.proofs.Common.{◌≡◌, ◌<◌, ℕ, List, [], ◌∷◌, length, get_or, map, refl, sym, ap, subst, ◌∙◌}
use Rattle.std.proofs.Common.{arith}
use Rattle.std.specs.List.{AllZip}
use Rattle.cube_core.specs.Arrival.{Arrivals, of_sources}
use Rattle.cube_core.specs.GroupingSet.{sets_of_part}
use Rattle.cube_core.specs.Layout.{Layout, cube_schema}
use Rattle.cube_core.specs.Run.{SourceBytes, AreGood, AreItemsOf}
use Rattle.cube_core.specs.TextPlaces.{counted_by}
use Rattle.cube_core.specs.declared.change.Item.{Item}
use Rattle.cube_core.specs.declared.condition.Condition.{Condition}
use Rattle.cube_core.specs.declared.fact.Fact.{Fact}
use Rattle.cube_core.proofs.ListLaws.{AllZip-length}
use Rattle.cube_cells.specs.Cube.{IsNewLattice, Lattice, SameSets}
use Rattle.cube_cells.specs.Fill.{IsCubeOfAll}
use Rattle.std.proofs.lemmas.List.{length-replicate}
use Rattle.cube_ledger.specs.Interest.{ledger_of_interest}
use Rattle.cube_ledger.specs.Ledger.{LedgerStandsAt, LedgerView, all_facts, ledger_without_facts, new_account}
use Rattle.cube_ledger.proofs.LedgerLaws.{refusals-without_facts}
use Rattle.cube_rings.specs.FeedingAll.{TakesFeeds}
use Rattle.cube_rings.specs.declared.gatherer.Gatherer.{Gatherer}
use Rattle.cube_rings.proofs.PlaceLaws.{some_of}
use Rattle.cube_rings.proofs.TakeLaws.{all_zip-at}
use Rattle.cube_build.specs.Builder.{BuilderView, HasFacts}
use Rattle.cube_build.specs.CountedRun.{CountsFeeds}
use Rattle.cube_build.specs.Counting.{AreCounts, AreCountsOf, AreFilledFrom, AreFinestCounts, AreRefusedOf}
use Rattle.cube_build.specs.Counting.{CounterStandsFrom, CounterView, CountsAt, HaveFactsOf}
use Rattle.cube_build.specs.Drafts.{DraftView, StandsFrom}
use Rattle.cube_build.specs.Interest.{BuildsWhere, PartStandsWhere}
use Rattle.cube_build.specs.Parted.{IsPartOver}
use Rattle.cube_build.specs.Parts.{AreParts, BuiltView}
use Rattle.cube_build.specs.Shares.{TakenInParts}
use Rattle.cube_build.specs.Taken.{IsFilledFrom, IsTaken, IsTakenPart, TakenView, TakesWhere}
use Rattle.cube_build.specs.declared.making.MadePart.{MadePart}
use Rattle.cube_build.proofs.FactLaws.{HasFacts-IsCubeOfAll, HasFacts-facts, IsCubeOfAll-HasFacts}
use Rattle.cube_build.proofs.InterestLaws.{lone-are-parts}

-- ---- counts

-- the cube of counts is that of all their facts, as they are counted
pub counts-all : (refused ledger : LedgerView) (cube : Lattice) → (are : AreCounts refused ledger cube)
    → IsCubeOfAll (map (counted_by are.cells.has.number (length ledger.schema.text_places)) (all_facts ledger.accounts))
    cube
counts-all refused ledger cube are =
    IsCubeOfAll-HasFacts ledger.schema (all_facts ledger.accounts) cube are.cells.schema are.cells.has

-- cells with the same facts count them too
pub counts-cells : (refused ledger : LedgerView) (cube cells : Lattice) → AreCounts refused ledger cube
    → HaveFactsOf ledger cells → AreCounts refused ledger cells
counts-cells refused ledger cube cells are has = record { noted = are.noted; cells = has }

-- a ledger has its own refusals without its facts
pub refused_without : (now ledger : LedgerView) → now ≡ ledger_without_facts ledger → AreRefusedOf now ledger
refused_without now ledger forgotten =
    rw forgotten (record { schema = refl; refusals = refusals-without_facts ledger.accounts })

-- what has the refusals of a ledger has the counts of its facts
pub counts-new : (refused ledger seen : LedgerView) (cube : Lattice) → AreRefusedOf refused ledger
    → seen ≡ ledger → HaveFactsOf ledger cube → AreCounts refused seen cube
counts-new refused ledger seen cube refusals same has = rw same (record { noted = refusals; cells = has })

-- finest cells with the facts of counts have those of their ledger
pub finest-has : (refused ledger : LedgerView) (cube cells : Lattice) → AreCounts refused ledger cube
    → cells.schema ≡ cube.schema → ((facts : List Fact) → IsCubeOfAll facts cube → IsCubeOfAll facts cells)
    → HaveFactsOf ledger cells
finest-has refused ledger cube cells are schema facts = record {
  schema = schema ∙ are.cells.schema;
  has = HasFacts-IsCubeOfAll ledger.schema (all_facts ledger.accounts) cube cells are.cells.has
      (facts _ (counts-all refused ledger cube are));
}

-- so they are what was taken
pub finest-taken : (refused ledger counted : LedgerView) (cube cells : Lattice) (number : ℕ)
    → AreCounts refused ledger cube → HaveFactsOf ledger cells → ledger ≡ counted
    → number ≡ length (all_facts counted.accounts) → IsTaken refused ledger cells number
finest-taken refused ledger counted cube cells number are has same number_is = record {
  are = counts-cells refused ledger cube cells are has;
  number =
      number_is ∙ ap (λ (l : LedgerView). length (all_facts l.accounts)) (sym same)
      ∙ sym (HasFacts-facts ledger.schema (all_facts ledger.accounts) cells has.has);
}

-- ---- a part that was taken

-- the counts have the facts of their ledger
has-own : (ledger : LedgerView) (counts : BuilderView) → AreFinestCounts ledger counts
    → HaveFactsOf counts.ledger counts.cube
has-own ledger counts are =
    subst (λ (l : LedgerView). HaveFactsOf l counts.cube) (sym are.ledger_is) are.has

-- what has taken all feeds gives such a part
pub taken-part : {B N : Type 0} (stands : B → Arrivals → Type 0) (s : Layout) (conditions : List Condition)
    (sources : SourceBytes) (feeds : List (List Item)) (gatherer : Gatherer B) (whole : LedgerView) (part : MadePart N)
    → AreGood s sources → AllZip (AreItemsOf s) sources feeds → (takes : TakesFeeds stands feeds gatherer)
    → whole.schema ≡ s → length whole.accounts ≡ length sources → LedgerStandsAt whole takes.arrivals
    → AreFinestCounts (ledger_of_interest conditions whole) part.builder
    → part.inlets.items ≡ gatherer.inlets.items → IsTakenPart s conditions sources part
taken-part stands s conditions sources feeds gatherer whole part good items takes schema all at counts inlets =
    let long : length feeds ≡ length sources = sym (AllZip-length (AreItemsOf s) sources feeds items) in
    let of : of_sources (length sources) takes.arrivals ≡ feeds = rw long at takes.same in
    record {
      finest = counts.finest;
      takes = record {
        good = good;
        arrivals = takes.arrivals;
        taken_are = rw of items;
        stands = record {
          whole = whole;
          schema = schema;
          all = all;
          stands = at;
          kept = counts.ledger_is;
          cells = has-own (ledger_of_interest conditions whole) part.builder counts;
          received = rw inlets (rw long at takes.received);
        };
      };
    }

-- so does a counter
pub taken-counted : {N : Type 0} (s : Layout) (conditions : List Condition) (sources : SourceBytes)
    (gatherer : Gatherer CounterView) (part : MadePart N) → CountsFeeds s conditions sources gatherer
    → AreCountsOf gatherer.builder part.builder → part.inlets.items ≡ gatherer.inlets.items
    → IsTakenPart s conditions sources part
taken-counted s conditions sources gatherer part feeds counts inlets =
    let at : CountsAt feeds.counter gatherer.builder feeds.takes.arrivals = feeds.takes.stands_at counts.unspent in
    let new = feeds.new in
    taken-part (CounterStandsFrom feeds.counter) s conditions sources feeds.feeds gatherer gatherer.builder.ledger part
    feeds.good feeds.items feeds.takes (at.schema ∙ new.schema)
    (at.all ∙ ap length new.accounts ∙ length-replicate (length sources) new_account) at.stands_at
    (subst (λ (cs : List Condition). AreFinestCounts (ledger_of_interest cs gatherer.builder.ledger) part.builder)
    (at.conditions ∙ new.conditions_are) counts.are) inlets

-- and a draft
pub taken-kept : {N : Type 0} (s : Layout) (conditions : List Condition) (sources : SourceBytes)
    (gatherers : List (Gatherer DraftView)) (gatherer : Gatherer DraftView) (part : MadePart N)
    → TakenInParts s sources 1 gatherers → gatherer ≡ get_or gatherers 0 gatherer
    → AreFinestCounts (ledger_of_interest conditions gatherer.builder.ledger) part.builder
    → part.inlets.items ≡ gatherer.inlets.items → IsTakenPart s conditions sources part
taken-kept s conditions sources gatherers gatherer part parts first counts inlets =
    let taken = parts.taken in
    let one : 0 < length parts.drafts = omega (arith, parts.new.counted) in
    let d = some_of parts.drafts 0 one in
    let draft = get_or parts.drafts 0 d in
    let takes : TakesFeeds (StandsFrom draft) taken.feeds gatherer =
    subst (TakesFeeds (StandsFrom draft) taken.feeds) (sym first)
    (all_zip-at (λ draft gatherer. TakesFeeds (StandsFrom draft) taken.feeds gatherer) parts.drafts gatherers 0 d
    gatherer taken.each one) in
    let new = parts.new.each 0 d (omega arith) in
    let from : StandsFrom draft gatherer.builder takes.arrivals = takes.stands_at in
    taken-part (StandsFrom draft) s conditions sources taken.feeds gatherer gatherer.builder.ledger part parts.good
    taken.items takes (from.schema ∙ new.schema) (from.all ∙ new.all) from.stands_at counts inlets

-- its ledger has the schema of the feeds
pub schema-taken : {N : Type 0} (s : Layout) (conditions : List Condition) (sources : SourceBytes) (part : MadePart N)
    → IsTakenPart s conditions sources part → part.builder.ledger.schema ≡ s
schema-taken s conditions sources part is =
    ap (λ (l : LedgerView). l.schema) is.takes.stands.kept ∙ is.takes.stands.schema

-- what a caller sees of a part that was taken, with its finest cells, has taken the feeds
pub taken-seen : {N : Type 0} (s : Layout) (conditions : List Condition) (sources : SourceBytes) (part : MadePart N)
    (taken : TakenView) → IsTakenPart s conditions sources part → taken.ledger ≡ part.builder.ledger
    → HaveFactsOf part.builder.ledger taken.cells → taken.inlets ≡ part.inlets.items
    → TakesWhere s conditions sources taken
taken-seen s conditions sources part taken is ledger cells inlets =
    let takes = is.takes in
    let stands = takes.stands in
    record {
      good = takes.good;
      arrivals = takes.arrivals;
      taken_are = takes.taken_are;
      stands = record {
        whole = stands.whole;
        schema = stands.schema;
        all = stands.all;
        stands = stands.stands;
        kept = ledger ∙ stands.kept;
        cells = subst (λ (l : LedgerView). HaveFactsOf l taken.cells) (sym ledger) cells;
        received = rw inlets stands.received;
      };
    }

-- there is what was gathered
pub gathered-one : (s : Layout) (sources : SourceBytes) (gatherers : List (Gatherer DraftView))
    → TakenInParts s sources 1 gatherers → 0 < length gatherers
gathered-one s sources gatherers parts =
    let long = AllZip-length (λ draft gatherer. TakesFeeds (StandsFrom draft) parts.taken.feeds gatherer) parts.drafts
    gatherers parts.taken.each in
    omega (arith, long, parts.new.counted)

-- ---- a part that is filled

-- a cube over all grouping sets has the facts of counts
pub filled-from : (finest counts : BuilderView) (s : Layout) (fresh filled : Lattice)
    → counts.ledger ≡ finest.ledger → counts.cube ≡ filled → s ≡ finest.ledger.schema
    → IsNewLattice s (sets_of_part 0 1 s.grouping_sets) fresh → SameSets fresh filled
    → HasFacts finest.ledger.schema (all_facts finest.ledger.accounts) filled → AreFilledFrom finest counts
filled-from finest counts s fresh filled kept there schema new same has = record {
  ledger = kept;
  over = record {
    schema = ap (λ (l : Lattice). l.schema) there ∙ same.schema ∙ new.schema_is ∙ ap cube_schema schema;
    sets =
        ap (λ (l : Lattice). l.sets) there ∙ same.sets ∙ new.sets_are
        ∙ ap (λ (l : Layout). sets_of_part 0 1 l.grouping_sets) schema;
  };
  has = rw there has;
}

-- it is the one part of its cube
pub filled-alone : (finest counts : BuilderView) → AreFilledFrom finest counts → AreParts (counts ∷ [])
filled-alone finest counts filled =
    lone-are-parts counts
    (subst (λ (l : LedgerView). IsPartOver l.schema 1 0 counts.cube) (sym filled.ledger) filled.over)
    (subst (λ (l : LedgerView). HasFacts l.schema (all_facts l.accounts) counts.cube) (sym filled.ledger) filled.has)

-- and has taken the feeds
pub builds-filled : {N : Type 0} (s : Layout) (conditions : List Condition) (sources : SourceBytes) (part : MadePart N)
    (built : BuiltView) → IsTakenPart s conditions sources part → IsFilledFrom part built
    → BuildsWhere s conditions sources 1 built
builds-filled s conditions sources part built is from =
    let takes = is.takes in
    let stands = takes.stands in
    let filled = from.filled in
    let schema = schema-taken s conditions sources part is in
    let at : PartStandsWhere s conditions (length sources) 1 0 takes.arrivals from.counts part.inlets.items =
    record {
      whole = stands.whole;
      schema = stands.schema;
      all = stands.all;
      stands = stands.stands;
      kept = filled.ledger ∙ stands.kept;
      over = subst (λ (l : Layout). IsPartOver l 1 0 from.counts.cube) schema filled.over;
      has = subst (λ (l : LedgerView). HasFacts l.schema (all_facts l.accounts) from.counts.cube)
          (sym filled.ledger) filled.has;
      received = stands.received;
    } in
    record {
      good = takes.good;
      arrivals = takes.arrivals;
      taken = takes.taken_are;
      stands = record {
        builders = ap length from.builders;
        inlets = ap length from.inlets;
        each = λ place d below.
            let here : place ≡ 0 = omega (arith, below) in
            rw (here, from.builders, from.inlets) at;
      };
    }
