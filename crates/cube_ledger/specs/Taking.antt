-- Where ledgers stand while they take the items of feeds in (this project's choice).
use Rattle.std.specs.Prelude.{◌≡◌, length}
use Rattle.cube_core.specs.Arrival.{Arrivals}
use Rattle.cube_ledger.specs.Ledger.{LedgerView, LedgerStandsAt}

-- a ledger stands at an arrival list, with the schema and as many accounts as at first
pub record LedgerStandsFrom (first ledger : LedgerView) (arrivals : Arrivals) : Type 0 where
  pub schema : ledger.schema ≡ first.schema
  pub all : length ledger.accounts ≡ length first.accounts
  pub stands_at : LedgerStandsAt ledger arrivals
