-- The ledgers of shares, put together.
use Rattle.std.proofs.Common.{◌≡◌, ◌-◌, ◌/◌, ℕ, List, [], ◌∷◌, ◌++◌, length, refl, ap, subst, sym}
use Rattle.std.proofs.Common.{◌∙◌, arith, flat_map, replicate, sum_by}
use Rattle.std.specs.Global.{Vec}
use Rattle.std.specs.List.{All, AllZip}
use Rattle.std.specs.Prelude.{Result, Ok, Err, IfOk, OnOk}
use Rattle.std.proofs.lemmas.List.{length-append, length-replicate}
use Rattle.std.proofs.lemmas.List.Elements.{All-cons, All-tail}
use Rattle.std.proofs.lemmas.List.Sums.{sum_by-cons}
use Rattle.cube_core.specs.Arrival.{of_sources}
use Rattle.cube_core.specs.Layout.{Layout}
use Rattle.cube_core.specs.Run.{SourceBytes, AreItemsOf, AreGood}
use Rattle.cube_core.specs.declared.change.Item.{Item}
use Rattle.cube_core.proofs.ListLaws.{AllZip-append}
use Rattle.cube_ledger.specs.Ledger.{LedgerView, AccountStandsAt, new_account}
use Rattle.cube_ledger.specs.Taking.{LedgerStandsFrom}
use Rattle.cube_ledger.proofs.StandLaws.{LedgerStandsAt-new}
use Rattle.cube_rings.specs.FeedingAll.{TakesFeeds, TakeAll}
use Rattle.cube_rings.specs.Shares.{StandAtShares, StandInShares}
use Rattle.cube_rings.specs.declared.gatherer.Gatherer.{Gatherer}
use Rattle.cube_build.specs.Drafts.{DraftView, StandsFrom, IsDrafted}
use Rattle.cube_build.specs.Shares.{AreNewLedgers, TakenInParts}

-- the last share takes all that is left
pub all-left : (left n : ℕ) → n ≡ 1 → left - left / n ≡ 0
all-left left n is = rw is (omega arith)

-- how many sources a ledger has
abbrev pub sources_of : LedgerView → ℕ
sources_of ledger = length ledger.accounts

-- all ledgers are of a schema
abbrev pub AreOfSchema : Layout → List LedgerView → Type 0
AreOfSchema s ledgers = All (λ ledger. ledger.schema ≡ s) ledgers

-- what ledgers that stand in shares are: of the schema, of as many sources, and their accounts stand at the feeds
pub record StandTogether (s : Layout) (olds news : List LedgerView) (feeds : List (List Item)) : Type 0 where
  pub schema : AreOfSchema s news
  pub sources : sum_by sources_of news ≡ sum_by sources_of olds
  pub accounts : length (flat_map (λ ledger. ledger.accounts) news) ≡ sum_by sources_of news
  pub stand : AllZip (AccountStandsAt s) feeds (flat_map (λ ledger. ledger.accounts) news)

of_schema-cons : (s : Layout) (ledger : LedgerView) (ledgers : List LedgerView) → ledger.schema ≡ s
    → AreOfSchema s ledgers → AreOfSchema s (ledger ∷ ledgers)
of_schema-cons s ledger ledgers one others = All-cons (λ (l : LedgerView). l.schema ≡ s) ledger ledgers one others

pub stand-together : (s : Layout) (olds news : List LedgerView) (feeds : List (List Item))
    → StandAtShares sources_of LedgerStandsFrom olds news feeds → AreOfSchema s olds → StandTogether s olds news feeds
stand-together s [] [] feeds stand of = record {
  schema = of;
  sources = refl;
  accounts = refl;
  stand = subst (λ (fs : List (List Item)). AllZip (AccountStandsAt s) fs []) (sym stand) tt;
}
stand-together s [] (new ∷ news) feeds stand of = absurd stand
stand-together s (old ∷ olds) [] feeds stand of = absurd stand
stand-together s (old ∷ olds) (new ∷ news) feeds stand of =
    let arrivals = stand.0 in
    let rest = stand.1 in
    let from : LedgerStandsFrom old new arrivals = stand.3 in
    let others = stand-together s olds news rest stand.4 (All-tail (λ (l : LedgerView). l.schema ≡ s) old olds of) in
    let schema : new.schema ≡ s = from.schema ∙ of 0 old (omega arith) in
    let own : AllZip (AccountStandsAt s) (of_sources (sources_of old) arrivals) new.accounts =
    rw (← schema, ← from.all) from.stands_at in
    record {
      schema = of_schema-cons s new news schema others.schema;
      sources = omega (
        arith,
        sum_by-cons sources_of new news,
        sum_by-cons sources_of old olds,
        from.all,
        others.sources,
      );
      accounts = omega (
        arith,
        sum_by-cons sources_of new news,
        length-append new.accounts (flat_map (λ (l : LedgerView). l.accounts) news),
        others.accounts,
      );
      stand = subst
          (λ (fs : List (List Item)). AllZip (AccountStandsAt s) fs
          (new.accounts ++ flat_map (λ (l : LedgerView). l.accounts) news)) (sym stand.2)
          (AllZip-append (AccountStandsAt s) (of_sources (sources_of old) arrivals) rest new.accounts
          (flat_map (λ (l : LedgerView). l.accounts) news) own others.stand);
    }

-- the builder that ledgers in shares have become has taken the feeds
pub record HasTakenShares (s : Layout) (sources : SourceBytes) (ledgers : Vec LedgerView)
    (wholes : List (Gatherer (Vec LedgerView))) : Type 0 where
  pub whole : Gatherer (Vec LedgerView)
  pub one : wholes ≡ whole ∷ []
  pub feeds : List (List Item)
  pub items : AllZip (AreItemsOf s) sources feeds
  pub takes : TakesFeeds (StandInShares sources_of LedgerStandsFrom ledgers) feeds whole
  pub together : StandTogether s ledgers.items whole.builder.items (of_sources (length sources) takes.arrivals)

pub taken-shares : (s : Layout) (sources : SourceBytes) (shares : ℕ) (ledgers : Vec LedgerView)
    (wholes : List (Gatherer (Vec LedgerView))) → AreNewLedgers s (length sources) shares ledgers.items
    → TakeAll (StandInShares sources_of LedgerStandsFrom) s sources (ledgers ∷ []) wholes
    → HasTakenShares s sources ledgers wholes
taken-shares s sources shares ledgers [] new taken = absurd taken.each
taken-shares s sources shares ledgers (x ∷ y ∷ ys) new taken = absurd taken.each.1
taken-shares s sources shares ledgers (whole ∷ []) new taken =
    let takes = taken.each.0 in
    record {
      whole = whole;
      one = refl;
      feeds = taken.feeds;
      items = taken.items;
      takes = takes;
      together = stand-together s ledgers.items whole.builder.items (of_sources (length sources) takes.arrivals)
          (subst (λ (n : ℕ). StandAtShares sources_of LedgerStandsFrom ledgers.items whole.builder.items
          (of_sources n takes.arrivals)) new.together takes.stands_at) new.schema;
    }

-- the draft of all shares has taken the feeds of all sources
pub drafted-taken : (s : Layout) (sources : SourceBytes) (shares : ℕ) (ledgers : Vec LedgerView)
    (wholes : List (Gatherer (Vec LedgerView))) (whole : Gatherer (Vec LedgerView))
    (gatherers : List (Gatherer DraftView)) → AreGood s sources
    → AreNewLedgers s (length sources) shares ledgers.items → (taken : HasTakenShares s sources ledgers wholes)
    → whole ≡ taken.whole → IsDrafted s whole gatherers → TakenInParts s sources 1 gatherers
drafted-taken s sources shares ledgers wholes whole gatherers good new taken same is =
    let n = length sources in
    let draft = is.gatherer.builder in
    let accounts = flat_map (λ (l : LedgerView). l.accounts) whole.builder.items in
    let together : StandTogether s ledgers.items whole.builder.items (of_sources n taken.takes.arrivals) =
    subst (λ (w : Gatherer (Vec LedgerView)). StandTogether s ledgers.items w.builder.items
    (of_sources n taken.takes.arrivals)) (sym same) taken.together in
    let all : length draft.ledger.accounts ≡ n =
    ap length is.draft.accounts ∙ together.accounts ∙ together.sources ∙ new.together in
    let stand : AllZip (AccountStandsAt s) (of_sources n taken.takes.arrivals) draft.ledger.accounts =
    subst (AllZip (AccountStandsAt s) (of_sources n taken.takes.arrivals)) (sym is.draft.accounts) together.stand in
    let first : DraftView = record {
      ledger = record { schema = s; accounts = replicate n new_account };
      cube = draft.cube;
    } in
    let inlets = is.inlets ∙ ap (λ (w : Gatherer (Vec LedgerView)). w.inlets) same in
    record {
      good = good;
      drafts = first ∷ [];
      new = record {
        counted = refl;
        each = λ part d below.
            let at : part ≡ 0 = omega arith in
            rw at (record {
              schema = refl;
              all = length-replicate n new_account;
              over = is.draft.over;
              stands_at = LedgerStandsAt-new first.ledger n refl;
            });
      };
      taken = record {
        feeds = taken.feeds;
        items = taken.items;
        each = subst (AllZip (λ d g. TakesFeeds (StandsFrom d) taken.feeds g) (first ∷ [])) (sym is.one) (
          record {
            arrivals = taken.takes.arrivals;
            same = taken.takes.same;
            stands_at = record {
              schema = is.draft.schema;
              all = all ∙ sym (length-replicate n new_account);
              cube = refl;
              stands_at = rw (is.draft.schema, all) stand;
            };
            received = rw inlets taken.takes.received;
          },
          tt,
        );
      };
    }

-- what holds of an answer where its parts do
pub if_ok-both : {A E : Type 0} (r : Result A E) (P : Type 0) (Q R : A → Type 0) → (P → (x : A) → Q x → R x)
    → OnOk r P → IfOk r Q → IfOk r R
if_ok-both (Ok x) P Q R then p q = then p x q
if_ok-both (Err e) P Q R then p q = tt
