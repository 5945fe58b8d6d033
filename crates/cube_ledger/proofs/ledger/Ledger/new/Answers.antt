use Rattle.cube_ledger.proofs.LedgerLaws.{IsLedger-new}
use Rattle.cube_ledger.proofs.StandLaws.{LedgerStandsAt-new}
use Rattle.cube_ledger.proofs.ledger.Ledger.new.Goals as goal

pub invariant_of-result : goal.invariant_of-result
invariant_of-result c = IsLedger-new _ _ c.args.sources c.in_ok-new_accounts.ensures c.requires

pub returns-clause-stands : goal.returns-clause-stands
returns-clause-stands c = LedgerStandsAt-new _ c.args.sources c.in_ok-new_accounts.ensures
