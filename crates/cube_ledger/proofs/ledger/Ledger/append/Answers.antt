use Rattle.std.proofs.Common.{◌≡◌, ◌≤◌, ◌+◌, arith, ap, length, sym, subst, ◌∙◌}
use Rattle.std.specs.Prelude.{is_ok}
use Rattle.cube_ledger.specs.Ledger.{IsLedger, LedgerView}
use Rattle.cube_ledger.proofs.LedgerLaws.{IsLedger-append}
use Rattle.cube_ledger.proofs.ledger.Ledger.append.Goals as goal

pub invariant_of-self : goal.invariant_of-self
invariant_of-self c =
    let own = c.self.inside in
    let other = c.other.inside in
    let schema : other.schema ≡ own.schema =
    ap (λ (l : LedgerView). l.schema) c.other.view_is ∙ c.requires.schema
    ∙ sym (ap (λ (l : LedgerView). l.schema) c.self.view_is) in
    let most : length own.accounts.items + length other.accounts.items ≤ 64 =
    omega (
      arith,
      c.requires.most,
      ap (λ (l : LedgerView). length l.accounts) c.self.view_is,
      ap (λ (l : LedgerView). length l.accounts) c.other.view_is,
    ) in
    subst (IsLedger own.schema) (sym c.append.ensures.items)
    (IsLedger-append own.schema other.schema own.accounts.items other.accounts.items (is_ok c.append.result) schema most
    c.self.invariant c.other.invariant)
