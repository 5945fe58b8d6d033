use Rattle.std.proofs.Common.{◌≡◌, ◌++◌, map, take, drop}
use Rattle.cube_ledger.specs.Interest.{account_of_interest}
use Rattle.cube_ledger.proofs.ledger.keep_of_interest.Given as goal

abbrev pub invariant-loop-account : goal.invariant-loop-account
invariant-loop-account l = l.accounts
    ≡ map (account_of_interest l.conditions) (take l.account-index l.initial.accounts)
    ++ drop l.account-index l.initial.accounts
