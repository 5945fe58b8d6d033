use Rattle.std.proofs.Common.{rules, None}
use Rattle.cube_ledger.proofs.LedgerLaws.{account-at, IsLedger-set}
use Rattle.cube_ledger.proofs.ledger.Ledger.take.Goals as goal

pub invariant_of-self : goal.invariant_of-self
invariant_of-self c =
    IsLedger-set _ c.self.inside.accounts.items _ c.index_mut-account.result.now c.take.new.self None c.take.result
    (search rules) (account-at c.self.inside.accounts.items _ _ (search rules) c.index_mut-account.ensures.value)
    c.self.invariant tt c.take.ensures.book.moved
