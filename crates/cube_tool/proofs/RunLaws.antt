-- From ledgers that have taken good feeds to what a question over feeds promises.
use Rattle.std.proofs.Common.{◌≡◌, ◌≤◌, ◌∙◌, ℕ, List, [], ◌∷◌, length, map, get_or, sym, ap, subst, arith}
use Rattle.std.specs.Prelude.{Bool, true, Option, Some}
use Rattle.std.specs.List.{AllZip}
use Rattle.std.proofs.lemmas.List.FromFn.{length-map-range_with_len}
use Rattle.cube_core.specs.Arrival.{Arrivals, of_source, of_sources}
use Rattle.cube_core.proofs.ListLaws.{AllZip-length}
use Rattle.cube_core.specs.Conditions.{of_interest}
use Rattle.cube_core.specs.Layout.{Layout}
use Rattle.cube_core.specs.Refusals.{refusals_of}
use Rattle.cube_core.specs.Run.{SourceBytes, AreGood, AreItemsOf, AreTaken}
use Rattle.cube_core.specs.Sources.{SurviveTogether}
use Rattle.cube_core.specs.declared.change.Item.{Item}
use Rattle.cube_core.specs.declared.change.Refusal.{Refusal}
use Rattle.cube_core.specs.declared.condition.Condition.{Condition}
use Rattle.cube_core.specs.declared.fact.Fact.{Fact}
use Rattle.cube_build.specs.Build.{BuildsWhole}
use Rattle.cube_build.specs.Builder.{BuilderView, StandsAt}
use Rattle.cube_ledger.specs.Ledger.{AccountStandsAt, LedgerView, LedgerStandsAt, all_facts}
use Rattle.cube_ledger.proofs.InterestLaws.{all_facts-of_interest, refusals-of_interest}
use Rattle.cube_ledger.proofs.SurvivorLaws.{SurviveTogether-stands}
use Rattle.cube_ledger.specs.Interest.{ledger_of_interest}
use Rattle.cube_build.specs.Interest.{BuildsWhere, PartStandsWhere}
use Rattle.cube_build.specs.Taken.{TakenView, TakesWhere}
use Rattle.cube_rings.specs.Link.{Receiving}
use Rattle.cube_live.proofs.RefusalLaws.{refusals_of_accounts}
use Rattle.cube_live.proofs.ShowsLaws.{refusals-each}
use Rattle.cube_build.specs.Parts.{BuiltView, BuildsParts, PartStandsAt, StandsInParts, first_ledger, facts_of_run}
use Rattle.cube_rings.specs.declared.parcel.Parcel.{Parcel}
use Rattle.cube_tool.specs.Answering.{AnswersOn, HasTaken, HasTooManyCells, MayAnswer, MayAnswerOn, MayAnswerOver}
use Rattle.cube_tool.specs.Answering.{OfInterestIn, first_refusal, refusals_of_run, status_over}
use Rattle.cube_tool.specs.Command.{status_after}
use Rattle.cube_tool.specs.MaxCells.{HasCellsBeyond, HasCellsWithin}
use Rattle.cube_tool.specs.Run.{IsTextOf, IsTextOn, OfFeeds, StandsOver, Tells, Wrote, WroteFirst}
use Rattle.cube_tool.proofs.RefusalLaws.{status_after-first_refusal}
use Rattle.cube_tool.specs.declared.command.status.Status.{Status}
use Rattle.cube_tool.specs.declared.command.status.Status.TheVariants.{Done}
use Rattle.cube_tool.specs.declared.command.terms.Terms.{Terms}
use Rattle.cube_tool.specs.declared.question.Question.{Question}

-- ---- what a ledger says of the feeds at which it stands

-- a ledger of a schema and so many sources stands at what an arrival list has of each
pub record StandsUnder (s : Layout) (sources : ℕ) (arrivals : Arrivals) (ledger : LedgerView) : Type 0 where
  pub schema : ledger.schema ≡ s
  pub all : length ledger.accounts ≡ sources
  pub stands : LedgerStandsAt ledger arrivals

-- its facts survive together
survives : {s : Layout} {sources : ℕ} {arrivals : Arrivals} {ledger : LedgerView}
    → StandsUnder s sources arrivals ledger
    → SurviveTogether s (of_sources sources arrivals) (all_facts ledger.accounts)
survives {sources = sources} {arrivals = arrivals} {ledger = ledger} under =
    subst (λ (l : Layout). SurviveTogether l (of_sources sources arrivals) (all_facts ledger.accounts)) under.schema
    (subst (λ (n : ℕ). SurviveTogether ledger.schema (of_sources n arrivals) (all_facts ledger.accounts)) under.all
    (SurviveTogether-stands ledger arrivals under.stands))

-- its refusals are those of the feeds
pub refused-under : {s : Layout} {sources : ℕ} {arrivals : Arrivals} {ledger : LedgerView}
    → StandsUnder s sources arrivals ledger
    → refusals_of_accounts ledger.accounts ≡ map (refusals_of s) (of_sources sources arrivals)
refused-under {s = s} {sources = sources} {arrivals = arrivals} {ledger = ledger} under =
    refusals-each s (of_sources sources arrivals) ledger.accounts
    (subst (λ (l : Layout). AllZip (AccountStandsAt l) (of_sources sources arrivals) ledger.accounts) under.schema
    (subst (λ (n : ℕ). AllZip (AccountStandsAt ledger.schema) (of_sources n arrivals) ledger.accounts)
    under.all under.stands))

-- a text that tells what is asked of its facts and refusals is that of the question over the feeds
pub IsTextOf-Tells : {s : Layout} {sources : ℕ} {arrivals : Arrivals} {ledger : LedgerView} (question : Question)
    (text : List ℕ) → StandsUnder s sources arrivals ledger
    → Tells question s (all_facts ledger.accounts) (refusals_of_accounts ledger.accounts) text
    → IsTextOf question s (of_sources sources arrivals) text
IsTextOf-Tells {s = s} {ledger = ledger} question text under tells = record {
  facts = all_facts ledger.accounts;
  survive = survives under;
  tells = subst (λ (r : List (List Refusal)). Tells question s (all_facts ledger.accounts) r text)
      (refused-under under) tells;
}

-- one that tells what is asked of its facts of interest and of its refusals is that of the question about these facts
pub IsTextOn-Tells : {s : Layout} {sources : ℕ} {arrivals : Arrivals} {ledger : LedgerView}
    (conditions : List Condition) (question : Question) (text : List ℕ) → StandsUnder s sources arrivals ledger
    → Tells question s (of_interest conditions (all_facts ledger.accounts)) (refusals_of_accounts ledger.accounts) text
    → IsTextOn conditions question s (of_sources sources arrivals) text
IsTextOn-Tells {s = s} {ledger = ledger} conditions question text under tells = record {
  facts = all_facts ledger.accounts;
  survive = survives under;
  tells = subst
      (λ (r : List (List Refusal)). Tells question s (of_interest conditions (all_facts ledger.accounts)) r text)
      (refused-under under) tells;
}

-- what holds of its facts of interest holds of those in the feeds
pub OfInterestIn-stands : {s : Layout} {sources : ℕ} {arrivals : Arrivals} {ledger : LedgerView}
    (conditions : List Condition) (Holds : List Fact → Type 0) → StandsUnder s sources arrivals ledger
    → Holds (of_interest conditions (all_facts ledger.accounts))
    → OfInterestIn conditions s (of_sources sources arrivals) Holds
OfInterestIn-stands {ledger = ledger} conditions Holds under holds =
    record { facts = all_facts ledger.accounts; survive = survives under; holds = holds }

-- where none of its lines may be refused, none of the feeds was
pub MayAnswer-stands : {s : Layout} {sources : ℕ} {arrivals : Arrivals} {ledger : LedgerView} (is_strict : Bool)
    → StandsUnder s sources arrivals ledger → MayAnswer is_strict (refusals_of_accounts ledger.accounts)
    → MayAnswer is_strict (map (refusals_of s) (of_sources sources arrivals))
MayAnswer-stands is_strict under may = λ strict. ap (first_refusal 1) (sym (refused-under under)) ∙ may strict

-- what may be answered over its facts of interest may be answered over the feeds
pub MayAnswerOver-stands : {s : Layout} {sources : ℕ} {arrivals : Arrivals} {ledger : LedgerView} (terms : Terms)
    → StandsUnder s sources arrivals ledger
    → MayAnswerOn terms s (of_interest terms.conditions.items (all_facts ledger.accounts))
    (refusals_of_accounts ledger.accounts) → MayAnswerOver terms s (of_sources sources arrivals)
MayAnswerOver-stands {s = s} terms under may = (
  MayAnswer-stands terms.is_strict under may.0,
  OfInterestIn-stands terms.conditions.items (HasCellsWithin terms.max_cells s) under may.1,
)

-- and there are too many cells of them where there are of the feeds'
pub HasTooManyCells-stands : {s : Layout} {sources : ℕ} {arrivals : Arrivals} {ledger : LedgerView} (terms : Terms)
    → StandsUnder s sources arrivals ledger → MayAnswer terms.is_strict (refusals_of_accounts ledger.accounts)
    → HasCellsBeyond terms.max_cells s (of_interest terms.conditions.items (all_facts ledger.accounts))
    → HasTooManyCells terms s (of_sources sources arrivals)
HasTooManyCells-stands {s = s} terms under may beyond = (
  MayAnswer-stands terms.is_strict under may,
  OfInterestIn-stands terms.conditions.items (HasCellsBeyond terms.max_cells s) under beyond,
)

-- ---- what was written

pub Wrote-weaker : {P Q : List ℕ → Type 0} {old new : Option (List ℕ)} → ((text : List ℕ) → P text → Q text)
    → Wrote P old new → Wrote Q old new
Wrote-weaker to wrote = record { text = wrote.text; holds = to wrote.text wrote.holds; written = wrote.written }

pub WroteFirst-weaker : {P Q : List ℕ → Type 0} {sent : ℕ} {old new : Option (List ℕ)}
    → ((text : List ℕ) → P text → Q text) → WroteFirst P sent old new → WroteFirst Q sent old new
WroteFirst-weaker to wrote =
    record { text = wrote.text; holds = to wrote.text wrote.holds; within = wrote.within; written = wrote.written }

-- ---- what holds of feeds

pub OfFeeds-weaker : {s : Layout} {sources : SourceBytes} {P Q : List (List Item) → Type 0}
    → ((feeds : List (List Item)) → P feeds → Q feeds) → OfFeeds s sources P → OfFeeds s sources Q
OfFeeds-weaker to of =
    record { feeds = of.feeds; good = of.good; items = of.items; holds = to of.feeds of.holds }

-- ---- the build in parts

-- as many lists as sources
long : (sources : ℕ) (arrivals : Arrivals) → length (of_sources sources arrivals) ≡ sources
long sources arrivals = length-map-range_with_len (of_source arrivals) 1 sources

-- what stands at an arrival list stands over the feeds of its sources
pub StandsOver-arrivals : (Stands : ℕ → Arrivals → Type 0) (sources : ℕ) (arrivals : Arrivals) → Stands sources arrivals
    → StandsOver (Stands (length (of_sources sources arrivals))) (of_sources sources arrivals)
StandsOver-arrivals Stands sources arrivals stands = record {
  arrivals = arrivals;
  same = ap (λ (n : ℕ). of_sources n arrivals) (long sources arrivals);
  stands = subst (λ (n : ℕ). Stands n arrivals) (sym (long sources arrivals)) stands;
}

-- the ledger of builder 0 stands where its part does
first-stands : (s : Layout) (sources parts : ℕ) (arrivals : Arrivals) (builders : List BuilderView)
    (inlets : List (List (Receiving Parcel))) → 1 ≤ length builders
    → ((d : BuilderView) → PartStandsAt s sources parts 0 arrivals (get_or builders 0 d) (get_or inlets 0 []))
    → StandsUnder s sources arrivals (first_ledger builders)
first-stands s sources parts arrivals [] inlets some stands = absurd (omega arith)
first-stands s sources parts arrivals (builder ∷ builders) inlets some stands =
    record { schema = (stands builder).schema; all = (stands builder).all; stands = (stands builder).stands.ledger }

-- so it does after a build
pub StandsUnder-BuildsParts : {s : Layout} {sources : SourceBytes} {parts : ℕ} {built : BuiltView}
    → 1 ≤ length built.builders
    → (builds : BuildsParts s sources parts built)
    → StandsUnder s (length sources) builds.arrivals (first_ledger built.builders)
StandsUnder-BuildsParts {s = s} {sources = sources} {parts = parts} {built = built} some builds =
    let count = builds.stands.builders in
    first-stands s (length sources) parts builds.arrivals built.builders built.inlets some
    (λ d. builds.stands.each 0 d (omega arith))

HasTaken-BuildsParts : {s : Layout} {sources : SourceBytes} {parts : ℕ} {built : BuiltView}
    → (builds : BuildsParts s sources parts built)
    → HasTaken s parts (of_sources (length sources) builds.arrivals) built
HasTaken-BuildsParts {s = s} {sources = sources} {parts = parts} {built = built} builds =
    StandsOver-arrivals (λ n. StandsInParts s n parts built) (length sources) builds.arrivals builds.stands

-- a text that tells what is asked of what was built was written: it is that of the feeds
pub OfFeeds-BuildsParts : {s : Layout} {sources : SourceBytes} {parts : ℕ} {built : BuiltView} {question : Question}
    {old new : Option (List ℕ)} → 1 ≤ length built.builders
    → BuildsParts s sources parts built → Wrote (Tells question s (facts_of_run built) (refusals_of_run built)) old new
    → OfFeeds s sources (λ feeds. Wrote (IsTextOf question s feeds) old new × HasTaken s parts feeds built)
OfFeeds-BuildsParts {sources = sources} {question = question} some builds wrote = record {
  feeds = of_sources (length sources) builds.arrivals;
  good = builds.good;
  items = builds.taken;
  holds = (
    Wrote-weaker (λ text. IsTextOf-Tells question text (StandsUnder-BuildsParts some builds)) wrote,
    HasTaken-BuildsParts builds,
  );
}

-- the first bytes of it
pub OfFeeds-first : {s : Layout} {sources : SourceBytes} {parts : ℕ} {built : BuiltView} {question : Question}
    {sent : ℕ}
    {old new : Option (List ℕ)} → 1 ≤ length built.builders
    → BuildsParts s sources parts built
    → WroteFirst (Tells question s (facts_of_run built) (refusals_of_run built)) sent old new
    → OfFeeds s sources (λ feeds. WroteFirst (IsTextOf question s feeds) sent old new)
OfFeeds-first {sources = sources} {question = question} some builds wrote = record {
  feeds = of_sources (length sources) builds.arrivals;
  good = builds.good;
  items = builds.taken;
  holds = WroteFirst-weaker (λ text. IsTextOf-Tells question text (StandsUnder-BuildsParts some builds)) wrote;
}

-- ---- the build of the facts of interest

-- a ledger that keeps the facts of interest has these, and all refusals
pub facts-kept : (conditions : List Condition) (whole ledger : LedgerView) → ledger ≡ ledger_of_interest conditions whole
    → all_facts ledger.accounts ≡ of_interest conditions (all_facts whole.accounts)
facts-kept conditions whole ledger kept =
    ap (λ (l : LedgerView). all_facts l.accounts) kept ∙ all_facts-of_interest conditions whole.accounts

pub refusals-kept : (conditions : List Condition) (whole ledger : LedgerView)
    → ledger ≡ ledger_of_interest conditions whole
    → refusals_of_accounts ledger.accounts ≡ refusals_of_accounts whole.accounts
refusals-kept conditions whole ledger kept =
    ap (λ (l : LedgerView). refusals_of_accounts l.accounts) kept ∙ refusals-of_interest conditions whole.accounts

-- so what holds of it holds of these
pub over-kept : (conditions : List Condition) (whole ledger : LedgerView) → ledger ≡ ledger_of_interest conditions whole
    → (Holds : List Fact → List (List Refusal) → Type 0)
    → Holds (all_facts ledger.accounts) (refusals_of_accounts ledger.accounts)
    → Holds (of_interest conditions (all_facts whole.accounts)) (refusals_of_accounts whole.accounts)
over-kept conditions whole ledger kept Holds holds =
    subst (λ (f : List Fact). Holds f (refusals_of_accounts whole.accounts)) (facts-kept conditions whole ledger kept)
    (subst (λ (r : List (List Refusal)). Holds (all_facts ledger.accounts) r)
    (refusals-kept conditions whole ledger kept) holds)

-- where it might be answered, and no line may be refused, none was
pub Done-MayAnswer : {is_strict : Bool} (refusals : List (List Refusal)) {status : Status}
    → status ≡ status_after refusals → MayAnswer is_strict refusals → is_strict ≡ true → status ≡ Done
Done-MayAnswer refusals status_is may strict =
    status_is ∙ status_after-first_refusal 1 refusals (may strict)

-- a ledger keeps the facts of interest of a whole one, which stands at what an arrival list has
pub record KeepsUnder (s : Layout) (conditions : List Condition) (sources : ℕ) (arrivals : Arrivals)
    (ledger : LedgerView) : Type 0 where
  pub whole : LedgerView
  pub under : StandsUnder s sources arrivals whole
  pub kept : ledger ≡ ledger_of_interest conditions whole

-- the list has of each source the items of its feed, and every feed is good
pub record KeepsFeeds (s : Layout) (conditions : List Condition) (sources : SourceBytes) (ledger : LedgerView)
    : Type 0 where
  pub good : AreGood s sources
  pub arrivals : Arrivals
  pub taken : AreTaken s sources arrivals
  pub keeps : KeepsUnder s conditions (length sources) arrivals ledger

pub first-keeps : (s : Layout) (conditions : List Condition) (sources parts : ℕ) (arrivals : Arrivals)
    (builders : List BuilderView) (inlets : List (List (Receiving Parcel))) → 1 ≤ length builders
    → ((d : BuilderView)
    → PartStandsWhere s conditions sources parts 0 arrivals (get_or builders 0 d) (get_or inlets 0 []))
    → KeepsUnder s conditions sources arrivals (first_ledger builders)
first-keeps s conditions sources parts arrivals [] inlets some stands = absurd (omega arith)
first-keeps s conditions sources parts arrivals (builder ∷ builders) inlets some stands =
    let first = stands builder in
    record {
      whole = first.whole;
      under = record { schema = first.schema; all = first.all; stands = first.stands };
      kept = first.kept;
    }

-- so does the ledger of builder 0
abbrev pub keeps-built : {s : Layout} {conditions : List Condition} {sources : SourceBytes} {parts : ℕ} {built : BuiltView}
    → 1 ≤ length built.builders → BuildsWhere s conditions sources parts built
    → KeepsFeeds s conditions sources (first_ledger built.builders)
keeps-built {s = s} {conditions = conditions} {sources = sources} {parts = parts} {built = built} some builds =
    let count = builds.stands.builders in
    record {
      good = builds.good;
      arrivals = builds.arrivals;
      taken = builds.taken;
      keeps = first-keeps s conditions (length sources) parts builds.arrivals built.builders built.inlets some
          (λ d. builds.stands.each 0 d (omega arith));
    }

-- and that of what one builder took
abbrev pub keeps-taken : {s : Layout} {conditions : List Condition} {sources : SourceBytes} {taken : TakenView}
    → TakesWhere s conditions sources taken → KeepsFeeds s conditions sources taken.ledger
keeps-taken takes =
    let stands = takes.stands in
    record {
      good = takes.good;
      arrivals = takes.arrivals;
      taken = takes.taken_are;
      keeps = record {
        whole = stands.whole;
        under = record { schema = stands.schema; all = stands.all; stands = stands.stands };
        kept = stands.kept;
      };
    }

module _ {s : Layout} {sources : SourceBytes} {ledger : LedgerView} (terms : Terms)
    (of : KeepsFeeds s terms.conditions.items sources ledger) where
  abbrev conditions : List Condition
  conditions = terms.conditions.items

  -- where the feeds end
  abbrev there : List (List Item)
  there = of_sources (length sources) of.arrivals

  abbrev refusals : List (List Refusal)
  refusals = refusals_of_accounts ledger.accounts

  refused-where : refusals ≡ map (refusals_of s) there
  refused-where = refusals-kept conditions of.keeps.whole ledger of.keeps.kept ∙ refused-under of.keeps.under

  -- what holds of the ledger's facts and refusals holds of the facts of interest, and of the whole ledger's refusals
  of-whole : (Holds : List Fact → List (List Refusal) → Type 0) → Holds (all_facts ledger.accounts) refusals
      → Holds (of_interest conditions (all_facts of.keeps.whole.accounts)) (refusals_of_accounts of.keeps.whole.accounts)
  of-whole = over-kept conditions of.keeps.whole ledger of.keeps.kept

  -- a text that tells what is asked of the ledger is that of the question about the facts of interest
  told-where : (question : Question) (text : List ℕ) → Tells question s (all_facts ledger.accounts) refusals text
      → IsTextOn conditions question s there text
  told-where question text tells = IsTextOn-Tells conditions question text of.keeps.under
      (of-whole (λ f r. Tells question s f r text) tells)

  over-feeds : (Holds : List (List Item) → Type 0) → Holds there → OfFeeds s sources Holds
  over-feeds Holds holds = record { feeds = there; good = of.good; items = of.taken; holds = holds }

  may-where : MayAnswerOn terms s (all_facts ledger.accounts) refusals → MayAnswerOver terms s there
  may-where may = MayAnswerOver-stands terms of.keeps.under (of-whole (λ f r. MayAnswerOn terms s f r) may)

  -- the question was answered, and this stands at the list
  pub OfFeeds-where : {question : Question} {status : Status} {old new : Option (List ℕ)}
      (Stands : ℕ → Arrivals → Type 0) → Stands (length sources) of.arrivals
      → AnswersOn terms question s (all_facts ledger.accounts) refusals status old new
      → OfFeeds s sources (λ feeds. Wrote (IsTextOn conditions question s feeds) old new
      × (status ≡ status_over s feeds) × (terms.is_strict ≡ true → status ≡ Done) × MayAnswerOver terms s feeds
      × StandsOver (Stands (length feeds)) feeds)
  OfFeeds-where {question = question} {status = status} {old = old} {new = new} Stands stands answers =
      over-feeds (λ feeds. Wrote (IsTextOn conditions question s feeds) old new
      × (status ≡ status_over s feeds) × (terms.is_strict ≡ true → status ≡ Done) × MayAnswerOver terms s feeds
      × StandsOver (Stands (length feeds)) feeds) (
        Wrote-weaker (told-where question) answers.wrote,
        answers.status_is ∙ ap status_after refused-where,
        Done-MayAnswer refusals answers.status_is answers.may.0,
        may-where answers.may,
        StandsOver-arrivals Stands (length sources) of.arrivals stands,
      )

  -- the first bytes of its text were written
  pub OfFeeds-where_first : {question : Question} {sent : ℕ} {old new : Option (List ℕ)}
      → WroteFirst (Tells question s (all_facts ledger.accounts) refusals) sent old new
      → MayAnswerOn terms s (all_facts ledger.accounts) refusals
      → OfFeeds s sources (λ feeds. WroteFirst (IsTextOn conditions question s feeds) sent old new
      × MayAnswerOver terms s feeds)
  OfFeeds-where_first {question = question} {sent = sent} {old = old} {new = new} wrote may =
      over-feeds (λ feeds. WroteFirst (IsTextOn conditions question s feeds) sent old new
      × MayAnswerOver terms s feeds)
      (WroteFirst-weaker (told-where question) wrote, may-where may)

  -- it might have been answered
  pub OfFeeds-may : MayAnswerOn terms s (all_facts ledger.accounts) refusals → OfFeeds s sources (MayAnswerOver terms s)
  OfFeeds-may may = over-feeds (MayAnswerOver terms s) (may-where may)

  -- there are more cells than there may be
  pub OfFeeds-too_many : MayAnswer terms.is_strict refusals
      → HasCellsBeyond terms.max_cells s (all_facts ledger.accounts) → OfFeeds s sources (HasTooManyCells terms s)
  OfFeeds-too_many may beyond = over-feeds (HasTooManyCells terms s)
      (HasTooManyCells-stands terms of.keeps.under
      (of-whole (λ f r. MayAnswer terms.is_strict r) may) (of-whole (λ f r. HasCellsBeyond terms.max_cells s f) beyond))

  -- the first refusal
  pub OfFeeds-first_refusal : (first : ℕ × Refusal) → first_refusal 1 refusals ≡ Some first
      → OfFeeds s sources (λ feeds. first_refusal 1 (map (refusals_of s) feeds) ≡ Some first)
  OfFeeds-first_refusal first is =
      over-feeds (λ feeds. first_refusal 1 (map (refusals_of s) feeds) ≡ Some first)
      (ap (first_refusal 1) (sym refused-where) ∙ is)

-- ---- the build on one thread

StandsUnder-BuildsWhole : {s : Layout} {sources : SourceBytes} {builder : BuilderView}
    → (builds : BuildsWhole s sources builder)
    → StandsUnder s (length sources) builds.ledger.arrivals builder.ledger
StandsUnder-BuildsWhole builds =
    record { schema = builds.ledger.schema; all = builds.ledger.all; stands = builds.ledger.stands }

pub OfFeeds-BuildsWhole : {s : Layout} {sources : SourceBytes} {builder : BuilderView} {question : Question}
    {old new : Option (List ℕ)}
    → BuildsWhole s sources builder
    → Wrote (Tells question s (all_facts builder.ledger.accounts) (refusals_of_accounts builder.ledger.accounts))
    old new
    → OfFeeds s sources (λ feeds. Wrote (IsTextOf question s feeds) old new × StandsOver (StandsAt builder) feeds)
OfFeeds-BuildsWhole {sources = sources} {builder = builder} {question = question} builds wrote = record {
  feeds = of_sources (length sources) builds.ledger.arrivals;
  good = builds.ledger.good;
  items = builds.ledger.taken;
  holds = (
    Wrote-weaker (λ text. IsTextOf-Tells question text (StandsUnder-BuildsWhole builds)) wrote,
    StandsOver-arrivals (λ n. StandsAt builder) (length sources) builds.ledger.arrivals
        (record { ledger = builds.ledger.stands; cube = builds.cube }),
  );
}

pub OfFeeds-whole_first : {s : Layout} {sources : SourceBytes} {builder : BuilderView} {question : Question} {sent : ℕ}
    {old new : Option (List ℕ)}
    → BuildsWhole s sources builder
    → WroteFirst (Tells question s (all_facts builder.ledger.accounts) (refusals_of_accounts builder.ledger.accounts))
    sent old new
    → OfFeeds s sources (λ feeds. WroteFirst (IsTextOf question s feeds) sent old new)
OfFeeds-whole_first {sources = sources} {question = question} builds wrote = record {
  feeds = of_sources (length sources) builds.ledger.arrivals;
  good = builds.ledger.good;
  items = builds.ledger.taken;
  holds = WroteFirst-weaker (λ text. IsTextOf-Tells question text (StandsUnder-BuildsWhole builds)) wrote;
}

-- ---- a builder that stands over feeds

-- the refusals of a builder that stands over feeds are theirs
pub refused-StandsOver : {s : Layout} {feeds : List (List Item)} {builder : BuilderView} → builder.ledger.schema ≡ s
    → length builder.ledger.accounts ≡ length feeds
    → StandsOver (StandsAt builder) feeds → refusals_of_accounts builder.ledger.accounts ≡ map (refusals_of s) feeds
refused-StandsOver {s = s} {feeds = feeds} {builder = builder} schema all over =
    let under : StandsUnder s (length feeds) over.arrivals builder.ledger =
    record { schema = schema; all = all; stands = over.stands.ledger } in
    refused-under under ∙ ap (map (refusals_of s)) over.same

-- so is the status by its refusals, of a run over the sources of the sample
pub OfFeeds-sample : {s : Layout} {sources : SourceBytes} {builder : BuilderView} {status : Status}
    {old new : Option (List ℕ)}
    (question : Question) (under : Layout) (told : SourceBytes) → under ≡ s → told ≡ sources
    → builder.ledger.schema ≡ under → length builder.ledger.accounts ≡ length told
    → status ≡ status_after (refusals_of_accounts builder.ledger.accounts)
    → OfFeeds under told (λ feeds. Wrote (IsTextOf question under feeds) old new × StandsOver (StandsAt builder) feeds)
    → OfFeeds s sources (λ feeds. Wrote (IsTextOf question s feeds) old new × (status ≡ status_over s feeds))
OfFeeds-sample {sources = sources} {builder = builder} {status = status} {old = old}
    {new = new} question under told schema_is told_is schema all status_is of =
    let answers :
    OfFeeds under told (λ feeds. Wrote (IsTextOf question under feeds) old new × (status ≡ status_over under feeds)) =
    record {
      feeds = of.feeds;
      good = of.good;
      items = of.items;
      holds = (
        of.holds.0,
        status_is ∙ ap status_after (refused-StandsOver {builder = builder} schema
            (all ∙ AllZip-length (AreItemsOf under) told of.feeds of.items) of.holds.1),
      );
    } in
    subst (λ (l : Layout).
    OfFeeds l sources (λ feeds. Wrote (IsTextOf question l feeds) old new × (status ≡ status_over l feeds))) schema_is
    (subst (λ (t : SourceBytes). OfFeeds under t
    (λ feeds. Wrote (IsTextOf question under feeds) old new × (status ≡ status_over under feeds))) told_is answers)
