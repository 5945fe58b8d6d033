use Rattle.std.proofs.Common.{◌≡◌, ◌++◌, map, take, drop}
use Rattle.cube_ledger.specs.Ledger.{without_facts}
use Rattle.cube_ledger.proofs.ledger.forget_facts.Given as goal

abbrev pub invariant-loop-account : goal.invariant-loop-account
invariant-loop-account g l = l.accounts
    ≡ map without_facts (take l.account-index l.initial.accounts) ++ drop l.account-index l.initial.accounts
