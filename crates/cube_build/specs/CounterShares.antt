-- Counters of shares of the sources, and the one counter that they become (this project's choice).
use Rattle.std.specs.Prelude.{◌≡◌, ◌≤◌, ◌<◌, ◌++◌, ℕ, false, List, flat_map, length, map}
use Rattle.std.specs.Global.{Vec}
use Rattle.std.specs.List.{All, sum_by}
use Rattle.cube_core.specs.Layout.{Layout}
use Rattle.cube_core.specs.declared.condition.Condition.{Condition}
use Rattle.cube_ledger.specs.Ledger.{LedgerView}
use Rattle.cube_rings.specs.declared.gatherer.Gatherer.{Gatherer}
use Rattle.cube_build.specs.Counting.{CounterView, IsNewCounter}

-- a ledger with the accounts of another after its own
abbrev pub appended : LedgerView → LedgerView → LedgerView
appended first second = record { schema = first.schema; accounts = first.accounts ++ second.accounts }

-- how many sources a counter has
abbrev pub counter_sources : CounterView → ℕ
counter_sources counter = length counter.ledger.accounts

-- memory ran out for none of these
abbrev pub AreUnspent : List CounterView → Type 0
AreUnspent counters = All (λ counter. counter.is_spent ≡ false) counters

-- a counter is of this schema, and counts the facts of which these conditions hold
pub record IsUnder (s : Layout) (conditions : List Condition) (counter : CounterView) : Type 0 where
  pub schema : counter.ledger.schema ≡ s
  pub conditions_are : counter.conditions ≡ conditions

-- a counter has the sources of another after its own
pub record IsJoined (first second whole : CounterView) : Type 0 where
  pub conditions : whole.conditions ≡ first.conditions
  pub ledger : whole.ledger ≡ appended first.ledger second.ledger
  pub unspent : whole.is_spent ≡ false

-- there are counters, all of one schema and of the same conditions, with at most 64 sources together
pub record MayJoin (counters : List CounterView) : Type 0 where
  pub some : 0 < length counters
  pub schema : Layout
  pub conditions : List Condition
  pub under : All (IsUnder schema conditions) counters
  pub most : sum_by counter_sources counters ≤ 64

-- the ledgers of counters
abbrev pub ledgers_of : List CounterView → List LedgerView
ledgers_of counters = map (λ counter. counter.ledger) counters

-- memory ran out for none, and one counter has the sources of all of them, in their order
pub record IsCounterOf (counters : List CounterView) (counter : CounterView) : Type 0 where
  pub all_unspent : AreUnspent counters
  pub unspent : counter.is_spent ≡ false
  pub under : (s : Layout) (conditions : List Condition) → All (IsUnder s conditions) counters
      → IsUnder s conditions counter
  pub accounts : counter.ledger.accounts ≡ flat_map (λ ledger. ledger.accounts) (ledgers_of counters)

-- a gatherer has the counter of shares, with the links of all sources
pub record IsGathererOf (whole : Gatherer (Vec CounterView)) (gatherer : Gatherer CounterView) : Type 0 where
  pub counter : IsCounterOf whole.builder.items gatherer.builder
  pub inlets : gatherer.inlets ≡ whole.inlets

-- so many counters that have taken nothing, with so many sources together
pub record AreNewCounters (s : Layout) (sources shares : ℕ) (conditions : List Condition)
    (counters : List CounterView) : Type 0 where
  pub counted : length counters ≡ shares
  pub together : sum_by counter_sources counters ≡ sources
  pub each : All (λ counter. IsNewCounter s (counter_sources counter) conditions counter) counters
