use Rattle.std.proofs.Common.{◌≡◌, replicate}
use Rattle.cube_ledger.specs.Ledger.{new_account}
use Rattle.cube_ledger.proofs.ledger.new_accounts.Given as goal

abbrev pub invariant-loop : goal.invariant-loop
invariant-loop l = l.accounts.items ≡ replicate l.counter new_account
