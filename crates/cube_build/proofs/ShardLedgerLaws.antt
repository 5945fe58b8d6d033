-- Shards of a feed while its items wait and are entered.
use Rattle.std.proofs.Common.{◌≡◌, ◌≢◌, ◌<◌, ◌≤◌, ◌+◌, ◌-◌, ◌==◌, ℕ, Bool, false, List, [], ◌∷◌, ◌++◌, length, filter}
use Rattle.std.proofs.Common.{get_or, refl, sym, ap, ◌∙◌, subst, arith, inl, inr, append_assoc, set, Result, Ok, Err}
use Rattle.std.specs.Prelude.{OnOk, is_err}
use Rattle.std.specs.List.{All}
use Rattle.std.proofs.lemmas.Bool.{cases_Bool, cases_lt, eqb-true, eq-eqb}
use Rattle.std.proofs.lemmas.List.{append-nil, get_or-set_other, get_or-set_same, length-set}
use Rattle.std.proofs.lemmas.List.{get_or_append_left, get_or-append_right, get_or_default, length-append, map-append}
use Rattle.cube_core.specs.Layout.{Layout}
use Rattle.cube_core.specs.declared.change.Item.{Item}
use Rattle.cube_ledger.specs.Ledger.{AccountStandsAt, AccountView, AtSource, Enters, LedgerView, account_of, new_account}
use Rattle.cube_ledger.proofs.StandLaws.{AccountStandsAt-Enters}
use Rattle.cube_build.specs.Sharded.{AllSettle, Awaits, Keeps, NoneWaits, SettleAlike, Settles, ShardStandsAt, ShardView}
use Rattle.cube_build.specs.Sharded.{ShardedView, ShardsCameTo, is_of_shard, last_of, numbers_of, shard_of_what, with_waiting}
use Rattle.cube_build.proofs.ShardedLaws.{Rise-push, last_of-push, of_place-here, of_place-other}

-- ---- one shard
-- a ledger of one account has that alone
pub account-one : (accounts : List AccountView) → length accounts ≡ 1
    → accounts ≡ get_or accounts 0 new_account ∷ []
account-one [] one = absurd (omega (arith, one))
account-one (a ∷ []) one = refl
account-one (a ∷ b ∷ accounts) one = absurd (omega (arith, one))

set-one : (accounts : List AccountView) (a : AccountView) → length accounts ≡ 1 → set accounts 0 a ≡ a ∷ []
set-one [] a one = absurd (omega (arith, one))
set-one (b ∷ []) a one = refl
set-one (b ∷ c ∷ accounts) a one = absurd (omega (arith, one))

-- it has one still after an item was entered, and stands at one item more
pub entered-one : (old new : LedgerView) (item : Item) → length old.accounts ≡ 1
    → AtSource (Enters old.schema item) 1 old new → length new.accounts ≡ 1
entered-one old new item one at = ap length (at.accounts ∙ set-one old.accounts at.account one)

pub entered : (s : Layout) (old new : LedgerView) (item : Item) → old.schema ≡ s → length old.accounts ≡ 1
    → AtSource (Enters old.schema item) 1 old new → (done : List Item)
    → AccountStandsAt s done (account_of old 1) → AccountStandsAt s (done ++ item ∷ []) (account_of new 1)
entered s old new item schema one at done stands =
    subst (λ (accounts : List AccountView). AccountStandsAt s (done ++ item ∷ []) (get_or accounts 0 new_account))
    (sym (at.accounts ∙ set-one old.accounts at.account one))
    (AccountStandsAt-Enters s done item (account_of old 1) at.account stands
    (subst (λ (t : Layout). Enters t item (account_of old 1) at.account) schema at.changed))

-- a list of no length is empty
pub nil-from : {X : Type 0} (xs : List X) → length xs ≡ 0 → xs ≡ []
nil-from [] is = refl
nil-from (x ∷ xs) is = absurd (omega (arith, is))

-- what is so where a call succeeds is so where it didn't fail
pub unless-err : {T E : Type 0} (r : Result T E) (P : Type 0) → OnOk r P → is_err r ≡ false → P
unless-err (Ok x) P holds is = holds
unless-err (Err e) P holds is = cc

-- a shard whose items were entered
pub settled : (old : ShardView) (next : LedgerView) (spent : Bool) → next.schema ≡ old.ledger.schema
    → (spent ≡ false → (done : List Item) → AccountStandsAt old.ledger.schema done (account_of old.ledger 1)
    → AccountStandsAt old.ledger.schema (done ++ old.waiting) (account_of next 1))
    → Settles old (record { ledger = next; waiting = []; is_spent = spent })
settled old next spent schema enters = record {
  schema = schema;
  none_waits = refl;
  stands = λ unspent items was. record {
    done = items;
    split = append-nil items;
    stands = rw schema (subst (λ l. AccountStandsAt old.ledger.schema l (account_of next 1)) was.split
        (enters unspent was.done was.stands));
  };
}

-- one item more waits in a shard
waits-more : (items : List Item) (item : Item) (shard : ShardView) → ShardStandsAt items shard
    → ShardStandsAt (items ++ item ∷ []) (with_waiting shard item)
waits-more items item shard stands = record {
  done = stands.done;
  split = sym (append_assoc stands.done shard.waiting (item ∷ [])) ∙ ap (λ l. l ++ item ∷ []) stands.split;
  stands = stands.stands;
}

-- ---- all shards
-- an item waits in its shard
pub awaits-came : (item : Item) (old new : ShardedView) → Awaits item old new → (items : List Item)
    → ShardsCameTo items old → ShardsCameTo (items ++ item ∷ []) new
awaits-came item old new awaits items came =
    let count = length old.shards in
    let own = shard_of_what count item.what in
    let numbers = map-append (λ (i : Item). i.number) items (item ∷ []) in
    let long : length new.shards ≡ count = ap length awaits.shards_are ∙ length-set old.shards own awaits.shard in
    record {
      rise = rw numbers (Rise-push 0 (numbers_of items) item.number came.rise
          (subst (λ n. n < item.number) came.last_is awaits.above));
      last_is = awaits.last_is ∙ sym (ap (last_of 0) numbers ∙ last_of-push 0 (numbers_of items) item.number);
      each = λ place d below. rw (long, awaits.shards_are) (elim (cases_Bool (is_of_shard count place item)) [
        | inl here ↦
            let at : own ≡ place = eqb-true own place here in
            let same : get_or (set old.shards own awaits.shard) place d ≡ with_waiting (get_or old.shards place d) item =
            ap (λ n. get_or (set old.shards own awaits.shard) n d) (sym at)
            ∙ get_or-set_same old.shards own awaits.shard d awaits.place_within
            ∙ awaits.shard_is d ∙ ap (λ n. with_waiting (get_or old.shards n d) item) at in
            rw (of_place-here count place items item here, same)
            (waits-more (filter (is_of_shard count place) items) item (get_or old.shards place d)
            (came.each place d (omega (arith, long, below))))
        | inr other ↦
            let apart : place ≢ own = λ same. cc (sym other ∙ eq-eqb own place (sym same)) in
            rw (
              of_place-other count place items item other,
              get_or-set_other old.shards own place awaits.shard d apart,
            )
            (came.each place d (omega (arith, long, below)))
      ]);
    }

-- the shards are settled
pub settled-came : (old new : ShardedView) → new.last ≡ old.last → length new.shards ≡ length old.shards
    → AllSettle old.shards new.shards
    → ((place : ℕ) (d : ShardView) → place < length new.shards → (get_or new.shards place d).is_spent ≡ false)
    → (items : List Item) → ShardsCameTo items old → ShardsCameTo items new
settled-came old new last long settle unspent items came = record {
  rise = came.rise;
  last_is = last ∙ came.last_is;
  each = λ place d below.
      let within : place < length old.shards = omega (arith, long, below) in
      rw long ((settle place d within).stands (unspent place d below)
      (filter (is_of_shard (length old.shards) place) items) (came.each place d within));
}

pub settled-alike : (s : Layout) (old new : List ShardView) → length new ≡ length old → AllSettle old new
    → All (λ shard. shard.ledger.schema ≡ s) old → All (λ shard. shard.ledger.schema ≡ s) new
settled-alike s old new long settle alike = λ place d below.
    let within : place < length old = omega (arith, long, below) in
    (settle place d within).schema ∙ alike place d within

pub settled-none : (old new : List ShardView) → length new ≡ length old → AllSettle old new → NoneWaits new
settled-none old new long settle = λ place d below. (settle place d (omega (arith, long, below))).none_waits

-- an item was put to those that wait in its shard
pub awaits-made : (item : Item) (s : Layout) (shards : List ShardView) (last place number : ℕ) (spent : Bool)
    (waited : ShardView) → spent ≡ false → place ≡ shard_of_what (length shards) item.what → place < length shards
    → last < number → number ≡ item.number → ((d : ShardView) → waited ≡ with_waiting (get_or shards place d) item)
    → Awaits item (record { schema = s; shards = shards; last = last; is_spent = spent })
    (record { schema = s; shards = set shards place waited; last = number; is_spent = spent })
awaits-made item s shards last place number spent waited unspent own within above is waits = record {
  before = unspent;
  schema = refl;
  above = omega (arith, above, is);
  last_is = is;
  place_within = omega (arith, own, within);
  shard = waited;
  shard_is = λ d. rw (← own) (waits d);
  shards_are = ap (λ n. set shards n waited) own;
}

pub keeps-settled : (s : Layout) (old new : List ShardView) (last : ℕ) (spent : Bool) → length new ≡ length old
    → AllSettle old new → ((place : ℕ) (d : ShardView) → place < length new → (get_or new place d).is_spent ≡ false)
    → Keeps (record { schema = s; shards = old; last = last; is_spent = spent })
    (record { schema = s; shards = new; last = last; is_spent = spent })
keeps-settled s old new last spent long settle unspent = record {
  schema = refl;
  came = settled-came (record { schema = s; shards = old; last = last; is_spent = spent })
      (record { schema = s; shards = new; last = last; is_spent = spent }) refl long settle unspent;
}

-- ---- shards settled one after another
-- the shards before a place were settled, and the others are as they were
pub record SettledTo (old now : List ShardView) (i : ℕ) : Type 0 where
  pub number : length now ≡ length old
  pub done : (place : ℕ) (d : ShardView) → place < i → place < length old
      → Settles (get_or old place d) (get_or now place d)
  pub left : (place : ℕ) (d : ShardView) → i ≤ place → get_or now place d ≡ get_or old place d

pub SettledTo-none : (shards : List ShardView) → SettledTo shards shards 0
SettledTo-none shards = record {
  number = refl;
  done = λ place d below within. absurd (omega (arith, below));
  left = λ place d from. refl;
}

pub SettledTo-more : (old now : List ShardView) (i : ℕ) (e next : ShardView) → i < length now
    → Settles (get_or now i e) next → SettledTo old now i → SettledTo old (set now i next) (i + 1)
SettledTo-more old now i e next inside settles to = record {
  number = length-set now i next ∙ to.number;
  done = λ place d below within. elim (cases_Bool (place == i)) [
    | inl here ↦
        let at : place ≡ i = eqb-true place i here in
        let was : get_or now i e ≡ get_or old i d = get_or_default now i e d inside ∙ to.left i d (omega arith) in
        rw (at, get_or-set_same now i next d inside) (subst (λ (shard : ShardView). Settles shard next) was settles)
    | inr other ↦
        let apart : place ≢ i = λ same. cc (sym other ∙ eq-eqb place i same) in
        rw (get_or-set_other now i place next d apart) (to.done place d (omega (arith, below, apart)) within)
  ];
  left = λ place d from.
      get_or-set_other now i place next d (λ same. absurd (omega (arith, same, from))) ∙ to.left place d (omega (arith, from));
}

pub SettleAlike-all : (old now : List ShardView) (i : ℕ) → length old ≤ i → SettledTo old now i → SettleAlike old now
SettleAlike-all old now i past to = record {
  number = to.number;
  each = λ place d below. to.done place d (omega (arith, past, below)) below;
}

-- two lists of shards
pub SettleAlike-append : (low high low_new high_new : List ShardView) → SettleAlike low low_new
    → SettleAlike high high_new → SettleAlike (low ++ high) (low_new ++ high_new)
SettleAlike-append low high low_new high_new of_low of_high = record {
  number = omega (
    arith,
    length-append low high,
    length-append low_new high_new,
    of_low.number,
    of_high.number,
  );
  each = λ place d below. elim (cases_lt place (length low)) [
    | inl before ↦
        rw (
          get_or_append_left low high d place before,
          get_or_append_left low_new high_new d place (omega (arith, before, of_low.number)),
        ) (of_low.each place d before)
    | inr after ↦
        rw (
          get_or-append_right low high (length low) place d refl after,
          get_or-append_right low_new high_new (length low) place d of_low.number after,
        ) (of_high.each (place - length low) d (omega (arith, below, after, length-append low high)))
  ];
}
