-- One feed taken in shards: a ledger for the ids of each, which together are the ledger of the feed (this project's choice).
use Rattle.std.specs.Prelude.{◌≡◌, ◌==◌, ◌≤◌, ◌<◌, ◌++◌, ◌∷◌, ⊤, ◌↔◌, ℕ, Bool, false, List, [], length, map, filter}
use Rattle.std.specs.Prelude.{flat_map, get_or, slice_set, Contains, Result, Ok, Err}
use Rattle.std.specs.List.{All}
use Rattle.cube_core.specs.Arrival.{Arrivals, of_source}
use Rattle.cube_core.specs.Layout.{Layout}
use Rattle.cube_core.specs.Life.{id_of}
use Rattle.cube_core.specs.Shard.{shard_of}
use Rattle.cube_core.specs.declared.change.Change.{Change}
use Rattle.cube_core.specs.declared.change.Item.{Item}
use Rattle.cube_core.specs.declared.change.LineFault.{LineFault}
use Rattle.cube_core.specs.declared.change.Refusal.{Refusal}
use Rattle.cube_core.specs.declared.condition.Condition.{Condition}
use Rattle.cube_ledger.specs.Book.{Entries}
use Rattle.cube_ledger.specs.Interest.{ledger_of_interest}
use Rattle.cube_ledger.specs.Ledger.{AccountStandsAt, AccountView, LedgerStandsAt, LedgerView, account_of, new_account}
use Rattle.cube_build.specs.Builder.{BuilderView}
use Rattle.cube_build.specs.Counting.{AreFinestCounts}

-- which of so many shards what an item says belongs to: a change to that of its id, a line fault to the first
abbrev pub shard_of_what : ℕ → Result Change LineFault → ℕ
shard_of_what count (Ok change) = shard_of count (id_of change)
shard_of_what count (Err fault) = 0

-- whether an item belongs to the shard of a place, among so many
abbrev pub is_of_shard : ℕ → ℕ → Item → Bool
is_of_shard count place item = shard_of_what count item.what == place

-- what a contract sees of the ledger of a shard: the ledger, the items that wait to be entered in it, and whether memory ran
-- out in entering
pub record ShardView : Type 0 where
  pub ledger : LedgerView
  pub waiting : List Item
  pub is_spent : Bool

-- a shard has come to these items: its account stands at those that were entered, and the others wait
pub record ShardStandsAt (items : List Item) (shard : ShardView) : Type 0 where
  pub done : List Item
  pub split : done ++ shard.waiting ≡ items
  pub stands : AccountStandsAt shard.ledger.schema done (account_of shard.ledger 1)

-- the ledger of a shard of a schema that has taken nothing
pub record IsNewShard (s : Layout) (shard : ShardView) : Type 0 where
  pub schema : shard.ledger.schema ≡ s
  pub stands : ShardStandsAt [] shard

-- one item more waits in a shard
abbrev pub with_waiting : ShardView → Item → ShardView
with_waiting shard item =
    record { ledger = shard.ledger; waiting = shard.waiting ++ item ∷ []; is_spent = shard.is_spent }

-- the items that waited in a shard were entered, unless memory ran out
pub record Settles (old new : ShardView) : Type 0 where
  pub schema : new.ledger.schema ≡ old.ledger.schema
  pub none_waits : new.waiting ≡ []
  pub stands : new.is_spent ≡ false → (items : List Item) → ShardStandsAt items old → ShardStandsAt items new

-- each of these shards was settled
abbrev pub AllSettle : List ShardView → List ShardView → Type 0
AllSettle old new = (place : ℕ) (d : ShardView) → place < length old → Settles (get_or old place d) (get_or new place d)

-- as many shards as before, each of which was settled
pub record SettleAlike (old new : List ShardView) : Type 0 where
  pub number : length new ≡ length old
  pub each : AllSettle old new

-- numbers that rise, all of them above one
abbrev pub Rise : ℕ → List ℕ → Type 0
Rise above [] = ⊤
Rise above (n ∷ ns) = (above < n) × Rise n ns

-- the last of numbers; where there is none, that which they are above
abbrev pub last_of : ℕ → List ℕ → ℕ
last_of above [] = above
last_of above (n ∷ ns) = last_of n ns

-- the numbers of items, and those of refusals
abbrev pub numbers_of : List Item → List ℕ
numbers_of items = map (λ (item : Item). item.number) items

abbrev pub refused_numbers : List Refusal → List ℕ
refused_numbers refusals = map (λ (refusal : Refusal). refusal.number) refusals

-- what a contract sees of a ledger in shards: the schema, the shards, the number of the last item, and whether memory ran
-- out
pub record ShardedView : Type 0 where
  pub schema : Layout
  pub shards : List ShardView
  pub last : ℕ
  pub is_spent : Bool

-- what is true of every ledger in shards: there are 1 to 8, all of the schema of an empty account
pub record IsSharded (fresh : LedgerView) (shards : List ShardView) : Type 0 where
  pub some : 1 ≤ length shards
  pub few : length shards ≤ 8
  pub empty : fresh.accounts ≡ new_account ∷ []
  pub alike : All (λ shard. shard.ledger.schema ≡ fresh.schema) shards

-- shards, so many, have come to these items, each to those that belong to it
abbrev pub StandInShards : List Item → List ShardView → Type 0
StandInShards items shards =
    (place : ℕ) (d : ShardView) → place < length shards
    → ShardStandsAt (filter (is_of_shard (length shards) place) items) (get_or shards place d)

-- a ledger in shards has come to these items, whose numbers rise
pub record ShardsCameTo (items : List Item) (sharded : ShardedView) : Type 0 where
  pub rise : Rise 0 (numbers_of items)
  pub last_is : sharded.last ≡ last_of 0 (numbers_of items)
  pub each : StandInShards items sharded.shards

-- a ledger in shards has taken an arrival list of one source, with the schema as at first, unless memory ran out
pub record ShardedStandsAt (first sharded : ShardedView) (arrivals : Arrivals) : Type 0 where
  pub schema : sharded.schema ≡ first.schema
  pub came : ShardsCameTo (of_source arrivals 1) sharded

abbrev pub ShardedStandsFrom : ShardedView → ShardedView → Arrivals → Type 0
ShardedStandsFrom first sharded arrivals = sharded.is_spent ≡ false → ShardedStandsAt first sharded arrivals

-- an item, whose number is above the last, waits in its shard
pub record Awaits (item : Item) (old new : ShardedView) : Type 0 where
  pub before : old.is_spent ≡ false
  pub schema : new.schema ≡ old.schema
  pub above : old.last < item.number
  pub last_is : new.last ≡ item.number
  pub place_within : shard_of_what (length old.shards) item.what < length old.shards
  pub shard : ShardView
  pub shard_is : (d : ShardView) → shard ≡ with_waiting (get_or old.shards (shard_of_what (length old.shards) item.what) d) item
  pub shards_are : new.shards ≡ slice_set old.shards (shard_of_what (length old.shards) item.what) shard

-- a ledger in shards has come still to all items that it had come to
pub record Keeps (old new : ShardedView) : Type 0 where
  pub schema : new.schema ≡ old.schema
  pub came : (items : List Item) → ShardsCameTo items old → ShardsCameTo items new

-- in none of these shards an item waits
abbrev pub NoneWaits : List ShardView → Type 0
NoneWaits shards = All (λ shard. shard.waiting ≡ []) shards

-- so many shards of a schema, each of which has taken nothing
pub record AreNewShards (s : Layout) (count : ℕ) (shards : List ShardView) : Type 0 where
  pub long : length shards ≡ count
  pub each : All (IsNewShard s) shards

-- a new ledger in shards
pub record IsNewSharded (s : Layout) (sharded : ShardedView) : Type 0 where
  pub schema : sharded.schema ≡ s
  pub came : ShardsCameTo [] sharded

-- the books of accounts, one after the other
abbrev pub books_of : List AccountView → Entries
books_of accounts = flat_map (λ account. account.book) accounts

-- refusals are those of accounts, put in the order of their numbers, which rise
pub record AreMerged (accounts : List AccountView) (refusals : List Refusal) : Type 0 where
  pub rise : Rise 0 (refused_numbers refusals)
  pub same : (refusal : Refusal) → Contains refusals refusal ↔ Contains (flat_map (λ account. account.refusals) accounts) refusal

-- a ledger of one source that has no fact, with these refusals
pub record HasRefusals (s : Layout) (refusals : List Refusal) (ledger : LedgerView) : Type 0 where
  pub schema : ledger.schema ≡ s
  pub accounts : ledger.accounts ≡ (record { book = []; refusals = refusals }) ∷ []

-- the ledger of one source that has the facts of the accounts of one, and the refusals of another
abbrev pub united : LedgerView → LedgerView → LedgerView
united apart refused = record {
  schema = apart.schema;
  accounts = (record { book = books_of apart.accounts; refusals = (account_of refused 1).refusals }) ∷ [];
}

-- these are the counts of the facts of interest of one source over the finest grouping set alone: it has the facts of
-- accounts, and their refusals in order
pub record AreUnitedCounts (conditions : List Condition) (apart : LedgerView) (counts : BuilderView) : Type 0 where
  pub refusals : List Refusal
  pub merged : AreMerged apart.accounts refusals
  pub are : AreFinestCounts (ledger_of_interest conditions (record {
    schema = apart.schema;
    accounts = (record { book = books_of apart.accounts; refusals = refusals }) ∷ [];
  })) counts

-- these are the counts of a whole ledger of one source that stands at an arrival list: of the facts of interest, over the
-- finest grouping set alone
pub record AreCountsAt (conditions : List Condition) (s : Layout) (arrivals : Arrivals) (counts : BuilderView)
    : Type 0 where
  pub whole : LedgerView
  pub schema : whole.schema ≡ s
  pub one : length whole.accounts ≡ 1
  pub stands : LedgerStandsAt whole arrivals
  pub are : AreFinestCounts (ledger_of_interest conditions whole) counts

-- one ledger in shards that has taken nothing
pub record IsOneSharded (s : Layout) (list : List ShardedView) : Type 0 where
  pub sharded : ShardedView
  pub one : list ≡ sharded ∷ []
  pub new : IsNewSharded s sharded
