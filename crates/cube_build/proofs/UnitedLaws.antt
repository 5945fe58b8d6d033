-- The ledgers of the shards of a feed, put together: their facts of interest, their refusals, and where they stand.
use Rattle.std.proofs.Common.{◌≡◌, ◌<◌, ◌+◌, ◌∷◌, ◌++◌, [], ◌∙◌, ℕ, List, Contains, IsPermutation, ap, arith}
use Rattle.std.proofs.Common.{false, flat_map, set, take, IfOk, Result, Ok, Err, get_or, length, map, refl, subst, sym}
use Rattle.std.specs.List.{All}
use Rattle.std.proofs.lemmas.List.{append-nil, get_or-map, length-map, map-append, take_more}
use Rattle.std.proofs.lemmas.List.Elements.{All-head, All-tail, filter-append}
use Rattle.std.proofs.lemmas.List.Sorted.{Contains-permutation, IsPermutation-sym}
use Rattle.cube_core.specs.Arrival.{Arrivals, of_source}
use Rattle.cube_core.specs.Conditions.{hold}
use Rattle.cube_core.specs.Layout.{Layout, cube_schema}
use Rattle.cube_core.specs.declared.change.Item.{Item}
use Rattle.cube_core.specs.declared.change.Refusal.{Refusal}
use Rattle.cube_core.specs.declared.condition.Condition.{Condition}
use Rattle.cube_core.specs.declared.fact.Fact.{Fact}
use Rattle.cube_cells.specs.Cube.{Lattice}
use Rattle.cube_ledger.specs.Book.{facts_of}
use Rattle.cube_ledger.specs.Interest.{account_of_interest, entries_of_interest, ledger_of_interest}
use Rattle.cube_ledger.specs.Ledger.{AccountStandsAt, AccountView, LedgerView, account_of, all_facts}
use Rattle.cube_ledger.specs.Ledger.{AtSource, new_account, with_refusal}
use Rattle.cube_build.specs.Builder.{BuilderView, HasFacts}
use Rattle.cube_build.specs.Counting.{AreCounts, AreRefusedOf, HaveFactsOf, IsOverFinest}
use Rattle.cube_build.specs.Sharded.{AreCountsAt, AreMerged, AreUnitedCounts, HasRefusals, IsSharded, NoneWaits, Rise}
use Rattle.cube_build.specs.Sharded.{ShardView, ShardedView, ShardsCameTo, books_of}
use Rattle.cube_build.specs.Sharded.{last_of, refused_numbers, united}
use Rattle.cube_build.proofs.ShardLedgerLaws.{account-one}
use Rattle.cube_build.proofs.ShardedLaws.{Rise-push, last_of-push, of_place, united-stands}
use Rattle.cube_build.proofs.TakenLaws.{counts-new}

-- ---- refusals in order
-- refusals that were brought in another order, in which their numbers rise
pub merged-sorted : (accounts : List AccountView) (all sorted : List Refusal)
    → all ≡ flat_map (λ (a : AccountView). a.refusals) accounts → IsPermutation all sorted
    → Rise 0 (refused_numbers sorted) → AreMerged accounts sorted
merged-sorted accounts all sorted is moved rise = record {
  rise = rise;
  same = λ one. (
    λ among. subst (λ rs. Contains rs one) is
        (Contains-permutation sorted all one (IsPermutation-sym all sorted moved) among),
    λ among. Contains-permutation all sorted one moved (subst (λ rs. Contains rs one) (sym is) among),
  );
}

-- ---- facts of interest
books-of-interest : (conditions : List Condition) (accounts : List AccountView)
    → entries_of_interest conditions (books_of accounts) ≡ books_of (map (account_of_interest conditions) accounts)
books-of-interest conditions [] = refl
books-of-interest conditions (a ∷ accounts) =
    filter-append (λ (e : List ℕ × Fact). hold conditions e.1) a.book (books_of accounts)
    ∙ ap (λ book. entries_of_interest conditions a.book ++ book) (books-of-interest conditions accounts)

facts-of-books : (accounts : List AccountView) → facts_of (books_of accounts) ≡ all_facts accounts
facts-of-books [] = refl
facts-of-books (a ∷ accounts) =
    map-append (λ (e : List ℕ × Fact). e.1) a.book (books_of accounts)
    ∙ ap (λ facts. facts_of a.book ++ facts) (facts-of-books accounts)

module _ (conditions : List Condition) (apart refused : LedgerView) (refusals : List Refusal) where
  -- the whole ledger, and what is kept of it
  abbrev whole : LedgerView
  whole = record {
    schema = apart.schema;
    accounts = (record { book = books_of apart.accounts; refusals = refusals }) ∷ [];
  }

  noted : HasRefusals apart.schema refusals refused → (account_of refused 1).refusals ≡ refusals
  noted has = ap (λ (accounts : List AccountView). (get_or accounts 0 new_account).refusals) has.accounts

  kept-whole : HasRefusals apart.schema refusals refused
      → united (ledger_of_interest conditions apart) refused ≡ ledger_of_interest conditions whole
  kept-whole has = λ i. record {
    schema = apart.schema;
    accounts = (record {
      book = sym (books-of-interest conditions apart.accounts) i;
      refusals = noted has i;
    }) ∷ [];
  }

  facts-whole : HasRefusals apart.schema refusals refused
      → all_facts (united (ledger_of_interest conditions apart) refused).accounts
      ≡ all_facts (ledger_of_interest conditions apart).accounts
  facts-whole has =
      append-nil (facts_of (books_of (ledger_of_interest conditions apart).accounts))
      ∙ facts-of-books (ledger_of_interest conditions apart).accounts

  has-whole : (cube : Lattice) → HasRefusals apart.schema refusals refused → cube.schema ≡ cube_schema apart.schema
      → HasFacts apart.schema (all_facts (ledger_of_interest conditions apart).accounts) cube
      → HaveFactsOf (united (ledger_of_interest conditions apart) refused) cube
  has-whole cube has schema facts = record {
    schema = schema;
    has = subst (λ (fs : List Fact). HasFacts apart.schema fs cube) (sym (facts-whole has)) facts;
  }

  -- the cube of the facts of interest, with the refusals
  pub united-counts : (seen : LedgerView) (cube : Lattice) → HasRefusals apart.schema refusals refused
      → seen ≡ united (ledger_of_interest conditions apart) refused → cube.schema ≡ cube_schema apart.schema
      → HasFacts apart.schema (all_facts (ledger_of_interest conditions apart).accounts) cube → AreCounts refused seen cube
  united-counts seen cube has is schema facts =
      let all = united (ledger_of_interest conditions apart) refused in
      let own : AreRefusedOf refused all = record {
        schema = has.schema;
        refusals =
            ap (map (λ (a : AccountView). a.refusals)) has.accounts
            ∙ ap (λ rs. rs ∷ []) (sym (noted has));
      } in
      counts-new refused all seen cube own is (has-whole cube has schema facts)

  pub united-are : (seen : LedgerView) (cube : Lattice) (counts : BuilderView) → AreMerged apart.accounts refusals
      → HasRefusals apart.schema refusals refused → seen ≡ united (ledger_of_interest conditions apart) refused
      → counts.ledger ≡ seen → counts.cube ≡ cube → IsOverFinest cube → cube.schema ≡ cube_schema apart.schema
      → HasFacts apart.schema (all_facts (ledger_of_interest conditions apart).accounts) cube
      → AreUnitedCounts conditions apart counts
  united-are seen cube counts merged has is ledger same finest schema facts = record {
    refusals = refusals;
    merged = merged;
    are = record {
      ledger_is = ledger ∙ is ∙ kept-whole has;
      finest = rw same finest;
      has = rw same (subst (λ (l : LedgerView). HaveFactsOf l cube) (kept-whole has)
          (has-whole cube has schema facts));
    };
  }

-- ---- where the whole ledger stands
accounts-of : (shards : List ShardView)
    → All (λ (l : LedgerView). length l.accounts ≡ 1) (map (λ (shard : ShardView). shard.ledger) shards)
    → flat_map (λ (l : LedgerView). l.accounts) (map (λ (shard : ShardView). shard.ledger) shards)
    ≡ map (λ (shard : ShardView). account_of shard.ledger 1) shards
accounts-of [] one = refl
accounts-of (shard ∷ shards) one =
    let ledgers = map (λ (shard : ShardView). shard.ledger) shards in
    ap (λ (accounts : List AccountView). accounts ++ flat_map (λ (l : LedgerView). l.accounts) ledgers)
    (account-one shard.ledger.accounts (All-head (λ (l : LedgerView). length l.accounts ≡ 1) shard.ledger ledgers one))
    ∙ ap (λ accounts. account_of shard.ledger 1 ∷ accounts)
    (accounts-of shards (All-tail (λ (l : LedgerView). length l.accounts ≡ 1) shard.ledger ledgers one))

-- the counts of the ledgers of shards in which nothing waits are those of a whole ledger at the arrivals
pub counts-at : (conditions : List Condition) (first settled : ShardedView) (fresh apart : LedgerView)
    (ledgers : List LedgerView) (arrivals : Arrivals) (counts : BuilderView)
    → IsSharded fresh settled.shards → settled.schema ≡ fresh.schema → settled.schema ≡ first.schema
    → NoneWaits settled.shards → ShardsCameTo (of_source arrivals 1) settled
    → ledgers ≡ map (λ (shard : ShardView). shard.ledger) settled.shards
    → All (λ (l : LedgerView). length l.accounts ≡ 1) ledgers
    → apart.schema ≡ fresh.schema → apart.accounts ≡ flat_map (λ (l : LedgerView). l.accounts) ledgers
    → AreUnitedCounts conditions apart counts → AreCountsAt conditions first.schema arrivals counts
counts-at conditions first settled fresh apart ledgers arrivals counts is own as_first none came ledgers_are one schema
    accounts are = record {
      whole = all;
      schema = schema ∙ sym own ∙ as_first;
      one = refl;
      stands = (
        united-stands apart.schema (length shards) items apart.accounts are.refusals is.some long each came.rise
            are.merged,
        tt,
      );
      are = are.are;
    } where
      shards : List ShardView
      shards = settled.shards

      items : List Item
      items = of_source arrivals 1

      all : LedgerView
      all = record {
        schema = apart.schema;
        accounts = (record { book = books_of apart.accounts; refusals = are.refusals }) ∷ [];
      }

      account : ShardView → AccountView
      account shard = account_of shard.ledger 1

      they : apart.accounts ≡ map account shards
      they =
          accounts ∙ ap (flat_map (λ (l : LedgerView). l.accounts)) ledgers_are
          ∙ accounts-of shards (subst (All (λ (l : LedgerView). length l.accounts ≡ 1)) ledgers_are one)

      long : length apart.accounts ≡ length shards
      long = ap length they ∙ length-map shards account

      no_shard : ShardView
      no_shard = record { ledger = fresh; waiting = []; is_spent = false }

      each : (place : ℕ) → place < length apart.accounts
          → AccountStandsAt apart.schema (of_place (length shards) (0 + place) items)
          (get_or apart.accounts place new_account)
      each place below =
          let within : place < length shards = omega (arith, long, below) in
          let at : place ≡ 0 + place = omega arith in
          let shard = get_or shards place no_shard in
          let stands = came.each place no_shard within in
          let done : stands.done ≡ of_place (length shards) place items =
          sym (append-nil stands.done) ∙ ap (λ w. stands.done ++ w) (sym (none place no_shard within)) ∙ stands.split in
          let alike : shard.ledger.schema ≡ apart.schema = is.alike place no_shard within ∙ sym schema in
          let here : get_or apart.accounts place new_account ≡ account shard =
          ap (λ (l : List AccountView). get_or l place new_account) they
          ∙ get_or-map account shards place no_shard new_account within in
          subst (λ n. AccountStandsAt apart.schema (of_place (length shards) n items)
          (get_or apart.accounts place new_account)) at
          (rw here (subst (λ (l : List Item). AccountStandsAt apart.schema l (account shard)) done
          (subst (λ (s : Layout). AccountStandsAt s stands.done (account shard)) alike stands.stands)))

-- ---- refusals noted one after another
-- a refusal more
pub refusing-more : (s : Layout) (xs : List Refusal) (i last : ℕ) (d : Refusal) (old new : LedgerView) → i < length xs
    → last < (get_or xs i d).number → Rise 0 (refused_numbers (take i xs))
    → last ≡ last_of 0 (refused_numbers (take i xs)) → HasRefusals s (take i xs) old
    → AtSource (λ (before after : AccountView). after
    ≡ with_refusal before (get_or xs i d).number (get_or xs i d).code) 1 old new
    → Rise 0 (refused_numbers (take (i + 1) xs))
    × ((get_or xs i d).number ≡ last_of 0 (refused_numbers (take (i + 1) xs)))
    × HasRefusals s (take (i + 1) xs) new
refusing-more s xs i last d old new below above rise last_is has at =
    let one = get_or xs i d in
    let numbers = map-append (λ (r : Refusal). r.number) (take i xs) (one ∷ []) in
    rw (take_more xs i d below) (
      rw numbers (Rise-push 0 (refused_numbers (take i xs)) one.number rise (omega (arith, above, last_is))),
      sym (ap (last_of 0) numbers ∙ last_of-push 0 (refused_numbers (take i xs)) one.number),
      record {
        schema = at.schema ∙ has.schema;
        accounts =
            at.accounts
            ∙ ap (λ (accounts : List AccountView). set accounts 0 at.account) has.accounts
            ∙ ap (λ (a : AccountView). a ∷ []) (at.changed
            ∙ ap (λ (accounts : List AccountView). with_refusal (get_or accounts 0 new_account) one.number one.code)
            has.accounts);
      },
    )

-- what is so of an answer by each of two is so by both
pub if-both : {T E : Type 0} (r : Result T E) (P Q R : T → Type 0) → ((x : T) → P x → Q x → R x)
    → IfOk r P → IfOk r Q → IfOk r R
if-both (Ok x) P Q R both p q = both x p q
if-both (Err e) P Q R both p q = tt
