-- Feeds taken into a ledger, source after source.
use Rattle.std.proofs.Common.{◌≡◌, ◌+◌, ◌-◌, ℕ, List, [], ◌∷◌, ◌++◌, length, get_or}
use Rattle.std.proofs.Common.{take, refl, sym, ap, ◌∙◌, subst, arith, append_assoc, length-append}
use Rattle.std.specs.Prelude.{Option, None}
use Rattle.std.specs.List.{AllZip}
use Rattle.std.proofs.Math.Seq.{take-append_seam}
use Rattle.std.proofs.lemmas.List.{append-nil, nil_from_length}
use Rattle.cube_core.proofs.ListLaws.{AllZip-length, AllZip-push}
use Rattle.cube_core.specs.Arrival.{of_sources}
use Rattle.cube_core.specs.Layout.{Layout}
use Rattle.cube_core.specs.Run.{SourceBytes, IsGood, AreItemsOf, AreGood}
use Rattle.cube_core.specs.declared.change.Item.{Item}
use Rattle.cube_feed.specs.Faults.{IsFaultOf}
use Rattle.cube_ledger.specs.Build.{Builds, TakesFeed, StopsFeed, ExplainsBuild}
use Rattle.cube_ledger.specs.Ledger.{LedgerView, LedgerStandsAt}
use Rattle.cube_ledger.specs.declared.fault.BuildFault.{BuildFault}
use Rattle.cube_ledger.specs.declared.fault.BuildFault.TheVariants.{Memory, Feed, Full}
use Rattle.cube_feed.proofs.TurnLaws.{from_source, in_turn, in_turn-more, of_sources-in_turn}

-- ---- how far a build has come

-- the feeds of the first sources were taken, and those of the others are left
pub record HasBuilt (s : Layout) (sources left : SourceBytes) (count : ℕ) (ledger : LedgerView) : Type 0 where
  pub done : SourceBytes
  pub split : sources ≡ done ++ left
  pub counted : length done ≡ count
  pub feeds : List (List Item)
  pub items : AllZip (AreItemsOf s) done feeds
  pub good : AreGood s done
  pub schema : ledger.schema ≡ s
  pub all : length ledger.accounts ≡ length sources
  pub stands : LedgerStandsAt ledger (in_turn 1 feeds)

-- at the start none was taken
pub HasBuilt-none : (s : Layout) (sources left : SourceBytes) (ledger : LedgerView) → left ≡ sources → ledger.schema ≡ s
    → length ledger.accounts ≡ length sources
    → LedgerStandsAt ledger [] → HasBuilt s sources left 0 ledger
HasBuilt-none s sources left ledger same schema all stands =
    record {
      done = [];
      split = sym same;
      counted = refl;
      feeds = [];
      items = tt;
      good = tt;
      schema = schema;
      all = all;
      stands = stands;
    }

AreGood-push : (s : Layout) (done : SourceBytes) (bytes : Option (List ℕ)) → AreGood s done → IsGood s bytes
    → AreGood s (done ++ bytes ∷ [])
AreGood-push s [] bytes good last = (last, tt)
AreGood-push s (first ∷ done) bytes good last = (good.0, AreGood-push s done bytes good.1 last)

-- one feed more
pub HasBuilt-more : (s : Layout) (sources left rest : SourceBytes) (bytes : Option (List ℕ)) (count : ℕ)
    (ledger new : LedgerView)
    → left ≡ bytes ∷ rest → TakesFeed s bytes (count + 1) ledger new → HasBuilt s sources left count ledger
    → HasBuilt s sources rest (count + 1) new
HasBuilt-more s sources left rest bytes count ledger new is takes built =
    let as_many : length built.done ≡ length built.feeds =
    AllZip-length (AreItemsOf s) built.done built.feeds built.items in
    let number : count + 1 ≡ 1 + length built.feeds = omega (arith, as_many, built.counted) in
    record {
      done = built.done ++ bytes ∷ [];
      split = built.split ∙ ap (λ l. built.done ++ l) is ∙ sym (append_assoc built.done (bytes ∷ []) rest);
      counted = omega (arith, length-append built.done (bytes ∷ []), built.counted);
      feeds = built.feeds ++ takes.items ∷ [];
      items = AllZip-push (AreItemsOf s) built.done built.feeds bytes takes.items built.items takes.all;
      good = AreGood-push s built.done bytes built.good takes.good;
      schema = takes.schema ∙ built.schema;
      all = takes.sources ∙ built.all;
      stands =
          subst (LedgerStandsAt new)
          (ap (λ n. in_turn 1 built.feeds ++ from_source n takes.items) number
          ∙ sym (in_turn-more 1 built.feeds takes.items))
          (takes.stands (in_turn 1 built.feeds) built.stands);
    }

-- at the end all were taken
pub Builds-all : (s : Layout) (sources left : SourceBytes) (count : ℕ) (ledger : LedgerView) → length sources ≡ count
    → HasBuilt s sources left count ledger → Builds s sources ledger
Builds-all s sources left count ledger ended built =
    let lengths : length sources ≡ length built.done + length left =
    ap length built.split ∙ length-append built.done left in
    let none : left ≡ [] = nil_from_length left (omega (arith, lengths, built.counted, ended)) in
    let all_done : sources ≡ built.done = built.split ∙ ap (λ l. built.done ++ l) none ∙ append-nil built.done in
    let as_many : length sources ≡ length built.feeds =
    ap length all_done ∙ AllZip-length (AreItemsOf s) built.done built.feeds built.items in
    let turned : of_sources (length sources) (in_turn 1 built.feeds) ≡ built.feeds =
    ap (λ n. of_sources n (in_turn 1 built.feeds)) as_many ∙ of_sources-in_turn 1 built.feeds in
    record {
      good = subst (AreGood s) (sym all_done) built.good;
      arrivals = in_turn 1 built.feeds;
      taken = subst (AllZip (AreItemsOf s) sources) (sym turned)
          (subst (λ told. AllZip (AreItemsOf s) told built.feeds) (sym all_done) built.items);
      schema = built.schema;
      all = built.all;
      stands = built.stands;
    }

get_or-seam : (done rest : SourceBytes) (bytes : Option (List ℕ))
    → get_or (done ++ bytes ∷ rest) (length done) None ≡ bytes
get_or-seam [] rest bytes = refl
get_or-seam (x ∷ done) rest bytes = get_or-seam done rest bytes

-- a feed that stopped is the lowest at fault
pub ExplainsBuild-stops : (s : Layout) (sources left rest : SourceBytes) (bytes : Option (List ℕ)) (count : ℕ)
    (ledger : LedgerView) (fault : BuildFault) → left ≡ bytes ∷ rest
    → HasBuilt s sources left count ledger → StopsFeed s bytes (count + 1) fault → ExplainsBuild s sources fault
ExplainsBuild-stops s sources left rest bytes count ledger Memory is built stops = tt
ExplainsBuild-stops s sources left rest bytes count ledger Full is built stops = tt
ExplainsBuild-stops s sources left rest bytes count ledger (Feed source fault) is built stops =
    let whole : sources ≡ built.done ++ bytes ∷ rest = built.split ∙ ap (λ l. built.done ++ l) is in
    let place : source - 1 ≡ length built.done = omega (arith, stops.0, built.counted) in
    let lengths : length sources ≡ length built.done + length (bytes ∷ rest) =
    ap length whole ∙ length-append built.done (bytes ∷ rest) in
    record {
      first = omega (arith, stops.0);
      last = omega (arith, stops.0, lengths, built.counted);
      lower = subst (AreGood s)
          (sym ((λ i. take (place i) (whole i)) ∙ take-append_seam built.done (bytes ∷ rest))) built.good;
      ends = subst (λ b. IsFaultOf s b fault)
          (sym ((λ i. get_or (whole i) (place i) None) ∙ get_or-seam built.done rest bytes)) stops.1;
    }
