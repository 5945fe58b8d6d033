-- Builders of the facts of interest alone.
use Rattle.std.proofs.Common.{◌≡◌, ◌<◌, ◌≤◌, ℕ, zero, suc, List, [], ◌∷◌, length, get_or, map, IsPermutation}
use Rattle.std.proofs.Common.{sym, ap, subst, ◌∙◌, arith}
use Rattle.std.specs.List.{AllZip}
use Rattle.std.proofs.lemmas.List.{get_or-map, length-map}
use Rattle.cube_core.proofs.ListLaws.{AllZip-length}
use Rattle.cube_core.proofs.ReorderedLaws.{filter-IsPermutation}
use Rattle.cube_core.specs.Arrival.{Arrivals, of_sources}
use Rattle.cube_core.specs.Conditions.{hold}
use Rattle.cube_core.specs.Layout.{Layout}
use Rattle.cube_core.specs.Run.{SourceBytes, AreItemsOf, AreGood}
use Rattle.cube_core.specs.declared.change.Item.{Item}
use Rattle.cube_core.specs.declared.condition.Condition.{Condition}
use Rattle.cube_ledger.proofs.InterestLaws.{all_facts-of_interest, ledger_of_interest-all}
use Rattle.cube_ledger.specs.Ledger.{LedgerView, AccountStandsAt, LedgerStandsAt, all_facts}
use Rattle.cube_rings.specs.FeedingAll.{TakesFeeds, TakeAll}
use Rattle.cube_rings.specs.Link.{Receiving}
use Rattle.cube_rings.specs.Parcels.{parcels_of}
use Rattle.cube_rings.specs.declared.parcel.Parcel.{Parcel}
use Rattle.cube_rings.specs.declared.gatherer.Gatherer.{Gatherer}
use Rattle.cube_rings.proofs.TakeLaws.{all_zip-at}
use Rattle.cube_rings.proofs.PlaceLaws.{some_of}
use Rattle.cube_build.specs.Builder.{BuilderView, HasFacts}
use Rattle.cube_build.specs.Drafts.{DraftView, StandsFrom, IsNewDraft, AreNewDrafts, IsMadeOf}
use Rattle.cube_build.specs.Interest.{BuildsWhere, PartStandsWhere, draft_of_interest, gathered_of_interest}
use Rattle.cube_build.specs.Parted.{IsPartOver, IsPartWith}
use Rattle.cube_build.specs.Parts.{AreAllMade, AreParts, BuildsParts, BuiltView, PartStandsAt}
use Rattle.cube_build.specs.Parts.{schema_of_run}
use Rattle.cube_build.proofs.FactLaws.{HasFacts-permutation}
use Rattle.cube_build.proofs.DraftLaws.{AreOf}
use Rattle.cube_build.proofs.PartLaws.{first-is, ledgers-alike}

-- the builder of a draft that has taken all feeds has the facts of interest
keeps-part : (s : Layout) (conditions : List Condition) (sources parts part : ℕ) (arrivals : Arrivals)
    (feeds : List (List Item)) (draft : DraftView) (gatherer : Gatherer DraftView) (builder : BuilderView)
    → AreOf sources arrivals feeds → IsNewDraft s sources parts part draft
    → TakesFeeds (StandsFrom draft) feeds gatherer
    → IsMadeOf (draft_of_interest conditions gatherer.builder) builder
    → PartStandsWhere s conditions sources parts part arrivals builder gatherer.inlets.items
keeps-part s conditions sources parts part arrivals feeds draft gatherer builder of new takes is_made =
    let now = gatherer.builder in
    let from : StandsFrom draft now takes.arrivals = takes.stands_at in
    let ledger = is_made.ledger in
    let all : length now.ledger.accounts ≡ sources = from.all ∙ new.all in
    let same : of_sources sources takes.arrivals ≡ of_sources sources arrivals =
    (rw of.long at takes.same) ∙ sym of.are in
    let stood : AllZip (AccountStandsAt now.ledger.schema) (of_sources sources takes.arrivals) now.ledger.accounts =
    rw all at from.stands_at in
    record {
      whole = now.ledger;
      schema = from.schema ∙ new.schema;
      all = all;
      stands = rw (all, ← same) stood;
      kept = ledger;
      over = record {
        schema = is_made.same.schema ∙ ap (λ cube. cube.schema) from.cube ∙ new.over.schema;
        sets = is_made.same.sets ∙ ap (λ cube. cube.sets) from.cube ∙ new.over.sets;
      };
      has = subst (λ (l : LedgerView). HasFacts l.schema (all_facts l.accounts) builder.cube) (sym ledger)
          is_made.has;
      received = rw of.long at takes.received ∙ ap (map parcels_of) same;
    }

-- so have the builders of all parts
pub builds-where : (s : Layout) (conditions : List Condition) (sources : SourceBytes) (parts : ℕ)
    (drafts : List DraftView) (gatherers kept : List (Gatherer DraftView)) (built : BuiltView)
    → AreGood s sources → 1 ≤ parts → AreNewDrafts s (length sources) parts parts drafts
    → TakeAll StandsFrom s sources drafts gatherers → kept ≡ map (gathered_of_interest conditions) gatherers
    → AreAllMade kept built → BuildsWhere s conditions sources parts built
builds-where s conditions sources parts drafts gatherers kept built good some new taken keeps are =
    let counted : length drafts ≡ parts = new.counted in
    let count =
    AllZip-length (λ draft gatherer. TakesFeeds (StandsFrom draft) taken.feeds gatherer) drafts gatherers taken.each in
    let as_many : length kept ≡ length gatherers =
    ap length keeps ∙ length-map gatherers (gathered_of_interest conditions) in
    let long : length taken.feeds ≡ length sources =
    sym (AllZip-length (AreItemsOf s) sources taken.feeds taken.items) in
    let one : 0 < length drafts = omega arith in
    let f = some_of drafts 0 one in
    let g = some_of gatherers 0 (omega arith) in
    let takes = all_zip-at (λ draft gatherer. TakesFeeds (StandsFrom draft) taken.feeds gatherer)
    drafts gatherers 0 f g taken.each one in
    let of : of_sources (length sources) takes.arrivals ≡ taken.feeds = rw long at takes.same in
    let builders = are.builders in
    let inlets = are.inlets in
    record {
      good = good;
      arrivals = takes.arrivals;
      taken = rw of taken.items;
      stands = record {
        builders = omega arith;
        inlets = omega arith;
        each = λ part d below.
            let low : part < length drafts = omega arith in
            let inside : part < length gatherers = omega arith in
            let draft = some_of drafts part low in
            let gathered = some_of gatherers part inside in
            let keep = gathered_of_interest conditions in
            let at : get_or kept part (keep gathered) ≡ keep (get_or gatherers part gathered) =
            ap (λ (all : List (Gatherer DraftView)). get_or all part (keep gathered)) keeps
            ∙ get_or-map keep gatherers part gathered (keep gathered) inside in
            let made : IsMadeOf (draft_of_interest conditions (get_or gatherers part gathered).builder)
            (get_or built.builders part d) =
            subst (λ (one : Gatherer DraftView). IsMadeOf one.builder (get_or built.builders part d)) at
            (are.made part (keep gathered) d (omega arith)) in
            let links : get_or built.inlets part [] ≡ (get_or gatherers part gathered).inlets.items =
            are.links part (keep gathered) (omega arith)
            ∙ ap (λ (one : Gatherer DraftView). one.inlets.items) at in
            rw links
            (keeps-part s conditions (length sources) parts part takes.arrivals taken.feeds (get_or drafts part draft)
            (get_or gatherers part gathered) (get_or built.builders part d) (record { long = long; are = of })
            (new.each part draft below)
            (all_zip-at (λ draft gatherer. TakesFeeds (StandsFrom draft) taken.feeds gatherer)
            drafts gatherers part draft gathered taken.each low) made);
      };
    }

-- what is seen of builders that have taken the feeds has taken them
pub builds-seen : (s : Layout) (conditions : List Condition) (sources : SourceBytes) (parts : ℕ)
    (inside seen : BuiltView) → seen.builders ≡ inside.builders → seen.inlets ≡ inside.inlets
    → BuildsWhere s conditions sources parts inside → BuildsWhere s conditions sources parts seen
builds-seen s conditions sources parts inside seen builders inlets builds = record {
  good = builds.good;
  arrivals = builds.arrivals;
  taken = builds.taken;
  stands = record {
    builders = ap length builders ∙ builds.stands.builders;
    inlets = ap length inlets ∙ builds.stands.inlets;
    each = λ part d below. rw (builders, inlets) (builds.stands.each part d below);
  };
}

-- whole ledgers that stand at one arrival list have the same facts of interest, but for their order
facts-alike : (s : Layout) (conditions : List Condition) (sources parts part other : ℕ) (arrivals : Arrivals)
    (a b : BuilderView) (to_a to_b : List (Receiving Parcel))
    → PartStandsWhere s conditions sources parts part arrivals a to_a
    → PartStandsWhere s conditions sources parts other arrivals b to_b
    → IsPermutation (all_facts a.ledger.accounts) (all_facts b.ledger.accounts)
facts-alike s conditions sources parts part other arrivals a b to_a to_b keeps_a keeps_b =
    rw (
      keeps_a.kept,
      keeps_b.kept,
      all_facts-of_interest conditions keeps_a.whole.accounts,
      all_facts-of_interest conditions keeps_b.whole.accounts,
    )
    (filter-IsPermutation (hold conditions) (all_facts keeps_a.whole.accounts) (all_facts keeps_b.whole.accounts)
    (ledgers-alike s sources arrivals keeps_a.whole keeps_b.whole keeps_a.schema keeps_b.schema keeps_a.all keeps_b.all
    keeps_a.stands keeps_b.stands))

-- the schema of a ledger that keeps the facts of interest
schema-kept : (s : Layout) (conditions : List Condition) (sources parts part : ℕ) (arrivals : Arrivals)
    (builder : BuilderView) (inlets : List (Receiving Parcel))
    → PartStandsWhere s conditions sources parts part arrivals builder inlets → builder.ledger.schema ≡ s
schema-kept s conditions sources parts part arrivals builder inlets keeps =
    ap (λ (l : LedgerView). l.schema) keeps.kept ∙ keeps.schema

-- such builders are the parts of one cube
pub kept-are-parts : (s : Layout) (conditions : List Condition) (sources : SourceBytes) (parts : ℕ) (built : BuiltView)
    → 1 ≤ parts → BuildsWhere s conditions sources parts built → AreParts built.builders
kept-are-parts s conditions sources parts built some builds =
    let keeps = builds.stands in
    let count = keeps.builders in
    record {
      some = omega arith;
      each = λ part d below.
          let own = keeps.each part d (omega arith) in
          let first = keeps.each 0 d (omega arith) in
          rw (
            first-is built.builders d (omega arith),
            schema-kept s conditions (length sources) parts 0 builds.arrivals (get_or built.builders 0 d)
                (get_or built.inlets 0 []) first,
            count,
          )
          (record {
            over = own.over;
            has = HasFacts-permutation s _ _ (get_or built.builders part d).cube
                (facts-alike s conditions (length sources) parts part 0 builds.arrivals (get_or built.builders part d)
                (get_or built.builders 0 d) (get_or built.inlets part []) (get_or built.inlets 0 []) own first)
                (subst (λ (l : Layout). HasFacts l (all_facts (get_or built.builders part d).ledger.accounts)
                (get_or built.builders part d).cube)
                (schema-kept s conditions (length sources) parts part builds.arrivals (get_or built.builders part d)
                (get_or built.inlets part []) own) own.has);
          });
    }

-- their schema
pub schema-where : (s : Layout) (conditions : List Condition) (sources : SourceBytes) (parts : ℕ) (built : BuiltView)
    → 1 ≤ parts → BuildsWhere s conditions sources parts built → schema_of_run built ≡ s
schema-where s conditions sources parts built some builds =
    let count = builds.stands.builders in
    let d = some_of built.builders 0 (omega arith) in
    ap (λ (l : LedgerView). l.schema) (first-is built.builders d (omega arith))
    ∙ schema-kept s conditions (length sources) parts 0 builds.arrivals (get_or built.builders 0 d)
    (get_or built.inlets 0 []) (builds.stands.each 0 d (omega arith))

-- ---- without a condition

-- a builder that has the facts of interest stands where the whole ledger does
stands-without : (s : Layout) (sources parts part : ℕ) (arrivals : Arrivals) (builder : BuilderView)
    (inlets : List (Receiving Parcel)) → PartStandsWhere s [] sources parts part arrivals builder inlets
    → PartStandsAt s sources parts part arrivals builder inlets
stands-without s sources parts part arrivals builder inlets keeps =
    let same : builder.ledger ≡ keeps.whole = keeps.kept ∙ ledger_of_interest-all keeps.whole in
    record {
      schema = ap (λ (l : LedgerView). l.schema) same ∙ keeps.schema;
      all = ap (λ (l : LedgerView). length l.accounts) same ∙ keeps.all;
      over = keeps.over;
      stands = record {
        ledger = subst (λ (l : LedgerView). LedgerStandsAt l arrivals) (sym same) keeps.stands;
        cube = keeps.has;
      };
      received = keeps.received;
    }

-- what was built has all facts
pub builds-without : (s : Layout) (sources : SourceBytes) (parts : ℕ) (built : BuiltView)
    → BuildsWhere s [] sources parts built → BuildsParts s sources parts built
builds-without s sources parts built builds = record {
  good = builds.good;
  arrivals = builds.arrivals;
  taken = builds.taken;
  stands = record {
    builders = builds.stands.builders;
    inlets = builds.stands.inlets;
    each = λ part d below.
        stands-without s (length sources) parts part builds.arrivals (get_or built.builders part d)
        (get_or built.inlets part []) (builds.stands.each part d below);
  };
}

-- ---- a ledger alone

-- a builder over all grouping sets is the one part of its cube
pub lone-are-parts : (builder : BuilderView) → IsPartOver builder.ledger.schema 1 0 builder.cube
    → HasFacts builder.ledger.schema (all_facts builder.ledger.accounts) builder.cube → AreParts (builder ∷ [])
lone-are-parts builder over has = record { some = omega arith; each = each } where
  each : (part : ℕ) (d : BuilderView) → part < 1
      → IsPartWith builder.ledger.schema (all_facts builder.ledger.accounts) 1 part
      (get_or (builder ∷ []) part d).cube
  each zero d below = record { over = over; has = has }
  each (suc part) d below = absurd (omega (arith, below))

-- the builder that is made of the draft of a ledger over all grouping sets is one
pub made-alone : (ledger : LedgerView) (draft : DraftView) (builder : BuilderView) → draft.ledger ≡ ledger
    → IsPartOver ledger.schema 1 0 draft.cube → IsMadeOf draft builder → AreParts (builder ∷ [])
made-alone ledger draft builder is over made =
    let same : ledger ≡ builder.ledger = sym (made.ledger ∙ is) in
    lone-are-parts builder
    (subst (λ (l : LedgerView). IsPartOver l.schema 1 0 builder.cube) same
    (record { schema = made.same.schema ∙ over.schema; sets = made.same.sets ∙ over.sets }))
    (subst (λ (l : LedgerView). HasFacts l.schema (all_facts l.accounts) builder.cube) (sym made.ledger) made.has)
