-- One feed taken in shards, from its first item to what is counted of it.
use Rattle.std.proofs.Common.{◌≡◌, ◌≤◌, ◌<◌, ◌==◌, ◌∷◌, ◌++◌, [], ◌∙◌, ℕ, List, ap, arith, filter, get_or, length, map, refl}
use Rattle.std.proofs.Common.{replicate, subst, sum_by, sym, true}
use Rattle.std.specs.List.{All, AllZip}
use Rattle.std.proofs.lemmas.List.{map-append}
use Rattle.std.proofs.lemmas.List.Elements.{All-cons, All-head, All-nil, All-tail, filter-append}
use Rattle.std.proofs.lemmas.List.Sums.{sum_by-cons}
use Rattle.cube_core.specs.Arrival.{Arrivals, of_source}
use Rattle.cube_core.specs.Layout.{Layout}
use Rattle.cube_core.specs.Run.{SourceBytes, AreGood}
use Rattle.cube_core.specs.declared.change.Item.{Item}
use Rattle.cube_core.specs.declared.condition.Condition.{Condition}
use Rattle.cube_core.proofs.ListLaws.{AllZip-length}
use Rattle.cube_ledger.specs.Ledger.{LedgerView, new_account}
use Rattle.cube_rings.specs.FeedingAll.{IsNew, TakeAll, TakesFeeds}
use Rattle.cube_rings.specs.declared.gatherer.Gatherer.{Gatherer}
use Rattle.cube_rings.proofs.TakeLaws.{all_zip-at}
use Rattle.cube_build.specs.Sharded.{AreCountsAt, AreNewShards, Awaits, IsOneSharded, IsSharded, Keeps}
use Rattle.cube_build.specs.Sharded.{ShardView, ShardedStandsFrom, ShardedView, ShardsCameTo}
use Rattle.cube_build.specs.Taken.{IsTakenPart}
use Rattle.cube_build.specs.declared.making.MadePart.{MadePart}
use Rattle.cube_build.proofs.ShardLedgerLaws.{awaits-came}
use Rattle.cube_build.proofs.TakenLaws.{taken-part}

-- ---- one item more
of_source-one : (arrivals : Arrivals) (item : Item)
    → of_source (arrivals ++ (1, item) ∷ []) 1 ≡ of_source arrivals 1 ++ item ∷ []
of_source-one arrivals item =
    ap (map (λ (arrival : ℕ × Item). arrival.1))
    (filter-append (λ (arrival : ℕ × Item). arrival.0 == 1) arrivals ((1, item) ∷ []))
    ∙ map-append (λ (arrival : ℕ × Item). arrival.1) (filter (λ (arrival : ℕ × Item). arrival.0 == 1) arrivals)
    ((1, item) ∷ [])

-- an item waits, and those that wait may be entered
pub sharded-further : (first old mid new : ShardedView) (source : ℕ) (item : Item) (arrivals : Arrivals) → 1 ≤ source
    → source ≤ 1 → Awaits item old mid → Keeps mid new → ShardedStandsFrom first old arrivals
    → ShardedStandsFrom first new (arrivals ++ (source, item) ∷ [])
sharded-further first old mid new source item arrivals from to awaits keeps stands = λ unspent.
    let was = stands awaits.before in
    let only : 1 ≡ source = omega (arith, from, to) in
    record {
      schema = keeps.schema ∙ awaits.schema ∙ was.schema;
      came = subst (λ n. ShardsCameTo (of_source (arrivals ++ (n, item) ∷ []) 1) new) only
          (subst (λ items. ShardsCameTo items new) (sym (of_source-one arrivals item))
          (keeps.came (of_source arrivals 1 ++ item ∷ [])
          (awaits-came item old mid awaits (of_source arrivals 1) was.came)));
    }

-- where memory ran out nothing is said
pub sharded-spent : (first new : ShardedView) (arrivals : Arrivals) → new.is_spent ≡ true
    → ShardedStandsFrom first new arrivals
sharded-spent first new arrivals spent = λ unspent. cc (spent, unspent)

-- ---- at first
pub new-sharded : (s : Layout) (count : ℕ) (fresh : LedgerView) (shards : List ShardView) → AreNewShards s count shards
    → fresh.schema ≡ s → fresh.accounts ≡ replicate 1 new_account → 1 ≤ count → count ≤ 8 → IsSharded fresh shards
new-sharded s count fresh shards are schema accounts some few = record {
  some = omega (arith, are.long, some);
  few = omega (arith, are.long, few);
  empty = accounts;
  alike = λ place d below. (are.each place d below).schema ∙ sym schema;
}

pub new-came : (s : Layout) (count : ℕ) (shards : List ShardView) (sharded : ShardedView) → AreNewShards s count shards
    → sharded.shards ≡ shards → sharded.last ≡ 0 → ShardsCameTo [] sharded
new-came s count shards sharded are same last = record {
  rise = tt;
  last_is = last;
  each = rw same (λ place d below. (are.each place d below).stands);
}

-- ---- the ledgers of all shards
pub ledgers-alike : (fresh : LedgerView) (shards : List ShardView) → IsSharded fresh shards
    → All (λ (l : LedgerView). l.schema ≡ fresh.schema) (map (λ (shard : ShardView). shard.ledger) shards)
ledgers-alike fresh shards is = go shards is.alike
  where
    go : (shards : List ShardView) → All (λ (shard : ShardView). shard.ledger.schema ≡ fresh.schema) shards
        → All (λ (l : LedgerView). l.schema ≡ fresh.schema) (map (λ (shard : ShardView). shard.ledger) shards)
    go [] alike = All-nil (λ (l : LedgerView). l.schema ≡ fresh.schema)
    go (shard ∷ shards) alike =
        All-cons (λ (l : LedgerView). l.schema ≡ fresh.schema) shard.ledger
        (map (λ (shard : ShardView). shard.ledger) shards)
        (All-head (λ (shard : ShardView). shard.ledger.schema ≡ fresh.schema) shard shards alike)
        (go shards (All-tail (λ (shard : ShardView). shard.ledger.schema ≡ fresh.schema) shard shards alike))

pub ledgers-count : (ledgers : List LedgerView) → All (λ (l : LedgerView). length l.accounts ≡ 1) ledgers
    → sum_by (λ (l : LedgerView). length l.accounts) ledgers ≡ length ledgers
ledgers-count [] one = refl
ledgers-count (l ∷ ledgers) one = omega (
  arith,
  sum_by-cons (λ (l : LedgerView). length l.accounts) l ledgers,
  All-head (λ (l : LedgerView). length l.accounts ≡ 1) l ledgers one,
  ledgers-count ledgers (All-tail (λ (l : LedgerView). length l.accounts ≡ 1) l ledgers one),
)

-- ---- a feed
pub new-list : (s : Layout) (sources : ℕ) (list : List ShardedView) → sources ≡ 1 → IsOneSharded s list
    → All (IsNew (λ (_ : ShardedView). 1) ShardedStandsFrom sources) list
new-list s sources list one is =
    let New : ShardedView → Type 0 = IsNew (λ (_ : ShardedView). 1) ShardedStandsFrom sources in
    subst (All New) (sym is.one) (All-cons New is.sharded [] (record {
      sources_are = sym one;
      stands_at = λ unspent. record { schema = refl; came = is.new.came };
    }) (All-nil New))

pub gathered-sharded : (s : Layout) (sources : SourceBytes) (list : List ShardedView)
    (gatherers : List (Gatherer ShardedView)) → IsOneSharded s list → TakeAll ShardedStandsFrom s sources list gatherers
    → 0 < length gatherers
gathered-sharded s sources list gatherers is taken =
    let long = AllZip-length
    (λ (sharded : ShardedView) (gatherer : Gatherer ShardedView).
    TakesFeeds (ShardedStandsFrom sharded) taken.feeds gatherer) list gatherers taken.each in
    omega (arith, long, ap length is.one)

pub taken-sharded : {N : Type 0} (s : Layout) (conditions : List Condition) (sources : SourceBytes)
    (list : List ShardedView) (gatherers : List (Gatherer ShardedView)) (gatherer : Gatherer ShardedView)
    (part : MadePart N) → length sources ≡ 1 → AreGood s sources → IsOneSharded s list
    → TakeAll ShardedStandsFrom s sources list gatherers → gatherer ≡ get_or gatherers 0 gatherer
    → ((first : ShardedView) (arrivals : Arrivals) → ShardedStandsFrom first gatherer.builder arrivals
    → AreCountsAt conditions first.schema arrivals part.builder)
    → part.inlets.items ≡ gatherer.inlets.items → IsTakenPart s conditions sources part
taken-sharded s conditions sources list gatherers gatherer part only good is taken at_first finishes inlets =
    let sharded = is.sharded in
    let each : AllZip (λ (b : ShardedView) (g : Gatherer ShardedView). TakesFeeds (ShardedStandsFrom b) taken.feeds g)
    (sharded ∷ []) gatherers = rw is.one at taken.each in
    let takes : TakesFeeds (ShardedStandsFrom sharded) taken.feeds gatherer =
    subst (TakesFeeds (ShardedStandsFrom sharded) taken.feeds) (sym at_first)
    (all_zip-at (λ (b : ShardedView) (g : Gatherer ShardedView). TakesFeeds (ShardedStandsFrom b) taken.feeds g)
    (sharded ∷ []) gatherers 0 sharded gatherer each (omega arith)) in
    let counts = finishes sharded takes.arrivals takes.stands_at in
    taken-part (ShardedStandsFrom sharded) s conditions sources taken.feeds gatherer counts.whole part good taken.items
    takes (counts.schema ∙ is.new.schema) (counts.one ∙ sym only) counts.stands counts.are inlets
