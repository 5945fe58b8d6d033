-- The feeds of all sources taken by the drafts of parts, and the ledgers of shares of the sources
-- (this project's choice).
use Rattle.std.specs.Prelude.{◌≡◌, ℕ, List, [], length}
use Rattle.std.specs.List.{All, sum_by}
use Rattle.cube_core.specs.Layout.{Layout}
use Rattle.cube_core.specs.Run.{SourceBytes, AreGood}
use Rattle.cube_ledger.specs.Ledger.{LedgerView, LedgerStandsAt}
use Rattle.cube_rings.specs.FeedingAll.{TakeAll}
use Rattle.cube_rings.specs.declared.gatherer.Gatherer.{Gatherer}
use Rattle.cube_build.specs.Drafts.{DraftView, StandsFrom, AreNewDrafts}

-- so many ledgers that have taken nothing, with so many sources together
pub record AreNewLedgers (s : Layout) (sources shares : ℕ) (ledgers : List LedgerView) : Type 0 where
  pub counted : length ledgers ≡ shares
  pub together : sum_by (λ ledger. length ledger.accounts) ledgers ≡ sources
  pub schema : All (λ ledger. ledger.schema ≡ s) ledgers
  pub stands_at : All (λ ledger. LedgerStandsAt ledger []) ledgers

-- the drafts of so many parts have taken the feeds of all sources, and every feed is good
pub record TakenInParts (s : Layout) (sources : SourceBytes) (parts : ℕ) (gatherers : List (Gatherer DraftView))
    : Type 0 where
  pub good : AreGood s sources
  pub drafts : List DraftView
  pub new : AreNewDrafts s (length sources) parts parts drafts
  pub taken : TakeAll StandsFrom s sources drafts gatherers
