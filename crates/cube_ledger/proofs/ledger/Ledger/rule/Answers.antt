use Rattle.std.proofs.Common.{◌≡◌, ◌<◌, ◌-◌, length, get_or, rules, subst, sym}
use Rattle.cube_ledger.specs.Book.{facts_of}
use Rattle.cube_ledger.specs.Ledger.{AccountView, AllFit, new_account}
use Rattle.cube_ledger.proofs.LedgerLaws.{account-at, AllFit-account}
use Rattle.cube_ledger.proofs.ledger.Ledger.rule.Goals as goal

pub rule-requires-clause-all_fit : goal.rule-requires-clause-all_fit
rule-requires-clause-all_fit c =
    let below : c.args.source - 1 < length c.self.inside.accounts.items = search rules in
    let is : c.index-account.result.now ≡ get_or c.self.inside.accounts.items (c.args.source - 1) new_account =
    account-at c.self.inside.accounts.items _ _ below c.index-account.ensures in
    subst (λ (account : AccountView). AllFit c.self.inside.schema (facts_of account.book)) (sym is)
    (AllFit-account c.self.inside.schema c.self.inside.accounts.items
    (c.args.source - 1) c.self.invariant.all_fit below)
