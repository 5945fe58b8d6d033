use Rattle.std.proofs.Common.{◌≡◌, ◌++◌, drop, map}
use Rattle.cube_ledger.specs.Ledger.{all_facts}
use Rattle.cube_ledger.proofs.ledger.Ledger.facts.Given as goal

abbrev pub invariant-loop-account : goal.invariant-loop-account
invariant-loop-account l =
    map (λ fact. fact.now) l.facts.items ++ all_facts (drop l.account-index l.self.accounts) ≡ all_facts l.self.accounts
