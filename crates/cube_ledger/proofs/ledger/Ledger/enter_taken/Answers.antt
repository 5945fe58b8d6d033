use Rattle.std.proofs.Common.{◌≡◌, ◌<◌, ◌-◌, length, get_or, rules, subst, sym}
use Rattle.cube_ledger.specs.Book.{facts_of}
use Rattle.cube_ledger.specs.Ledger.{AccountView, AllFit, new_account}
use Rattle.cube_ledger.proofs.LedgerLaws.{account-at, AllFit-account, IsLedger-enter}
use Rattle.cube_ledger.proofs.ledger.Ledger.enter_taken.Goals as goal

pub enter-requires-clause-all_fit : goal.enter-requires-clause-all_fit
enter-requires-clause-all_fit c =
    let below : c.args.source - 1 < length c.self.inside.accounts.items = search rules in
    let is : c.index_mut-account.result.now ≡ get_or c.self.inside.accounts.items (c.args.source - 1) new_account =
    account-at c.self.inside.accounts.items _ _ below c.index_mut-account.ensures.value in
    subst (λ (account : AccountView). AllFit c.self.inside.schema (facts_of account.book)) (sym is)
    (AllFit-account c.self.inside.schema c.self.inside.accounts.items
    (c.args.source - 1) c.self.invariant.all_fit below)

pub invariant_of-self : goal.invariant_of-self
invariant_of-self c =
    IsLedger-enter _ c.self.inside.accounts.items _ c.index_mut-account.result.now c.enter.new.self c.args.item
    c.enter.result
    (search rules) (account-at c.self.inside.accounts.items _ _ (search rules) c.index_mut-account.ensures.value)
    c.self.invariant (search rules)
    c.enter.ensures.enters c.enter.ensures.err
