use Rattle.std.proofs.Common.{rules}
use Rattle.cube_ledger.proofs.LedgerLaws.{account-at, IsLedger-same}
use Rattle.cube_ledger.proofs.ledger.Ledger.refuse.Goals as goal

pub invariant_of-self : goal.invariant_of-self
invariant_of-self c =
    IsLedger-same _ c.self.inside.accounts.items _ c.index_mut-account.result.now c.refuse.new.self
    (search rules) (account-at c.self.inside.accounts.items _ _ (search rules) c.index_mut-account.ensures.value)
    c.self.invariant c.refuse.ensures.book
