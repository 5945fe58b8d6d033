use Rattle.std.proofs.Common.{rules}
use Rattle.cube_ledger.proofs.LedgerLaws.{account-at, IsLedger-put}
use Rattle.cube_ledger.proofs.ledger.Ledger.put.Goals as goal

pub invariant_of-self : goal.invariant_of-self
invariant_of-self c =
    IsLedger-put _ c.self.inside.accounts.items _ c.index_mut-account.result.now c.put.new.self c.args.id c.args.fact
    c.put.result
    (search rules) (account-at c.self.inside.accounts.items _ _ (search rules) c.index_mut-account.ensures.value)
    c.self.invariant (search rules) c.put.ensures.put c.put.ensures.err
