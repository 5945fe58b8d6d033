-- What taking the feeds of several sources promises, and why it may fail (this project's choice).
use Rattle.std.specs.Prelude.{◌≡◌, ◌++◌, ⊤, ℕ, List, length, map, Option}
use Rattle.cube_core.specs.Arrival.{Arrivals}
use Rattle.cube_core.specs.Layout.{Layout}
use Rattle.cube_core.specs.Run.{SourceBytes, IsGood, AreItemsOf, AreGood, AreTaken}
use Rattle.cube_core.specs.declared.change.Item.{Item}
use Rattle.cube_feed.specs.Faults.{IsFaultOf, IsLowestFault}
use Rattle.cube_feed.specs.Feed.{FeedView, rest_of_feed}
use Rattle.cube_ledger.specs.Ledger.{LedgerView, LedgerStandsAt}
use Rattle.cube_ledger.specs.declared.fault.BuildFault.{BuildFault}
use Rattle.cube_ledger.specs.declared.fault.BuildFault.TheVariants as build_fault

-- a ledger has taken the feeds of these sources:
-- every feed is good, and the ledger stands at an arrival list of their items
pub record Builds (s : Layout) (sources : SourceBytes) (ledger : LedgerView) : Type 0 where
  pub good : AreGood s sources
  pub arrivals : Arrivals
  pub taken : AreTaken s sources arrivals
  pub schema : ledger.schema ≡ s
  pub all : length ledger.accounts ≡ length sources
  pub stands : LedgerStandsAt ledger arrivals

-- why nothing was built of the feeds of these sources: memory, or the lowest source's own fault
abbrev pub ExplainsBuild : Layout → SourceBytes → BuildFault → Type 0
ExplainsBuild s sources build_fault.Memory = ⊤
ExplainsBuild s sources (build_fault.Feed source fault) = IsLowestFault s sources source fault
ExplainsBuild s sources build_fault.Full = ⊤

-- a ledger took all items of the feed of a source, which is good
pub record TakesFeed (s : Layout) (bytes : Option (List ℕ)) (source : ℕ) (old new : LedgerView) : Type 0 where
  pub items : List Item
  pub all : AreItemsOf s bytes items
  pub good : IsGood s bytes
  pub schema : new.schema ≡ old.schema
  pub sources : length new.accounts ≡ length old.accounts
  pub stands : (arrivals : Arrivals) → LedgerStandsAt old arrivals
      → LedgerStandsAt new (arrivals ++ map (λ item. (source, item)) items)

-- what is to come of a feed is what these bytes say, where they are told
abbrev pub IsToCome : Option (List ℕ) → FeedView → Type 0
IsToCome bytes feed = feed.to_come ≡ rest_of_feed feed.schema bytes

-- why not all items of the feed of a source were taken: memory, or the feed's own fault
abbrev pub StopsFeed : Layout → Option (List ℕ) → ℕ → BuildFault → Type 0
StopsFeed s bytes source build_fault.Memory = ⊥
StopsFeed s bytes source (build_fault.Feed at fault) = (at ≡ source) × IsFaultOf s bytes fault
StopsFeed s bytes source build_fault.Full = ⊤
