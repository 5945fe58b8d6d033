use Rattle.std.proofs.Common.{◌≡◌, ◌++◌, map}
use Rattle.cube_ledger.specs.Book.{facts_of}
use Rattle.cube_ledger.proofs.ledger.push_facts.Given as goal

abbrev pub invariant-loop-fact : goal.invariant-loop-fact
invariant-loop-fact l =
    (goal.iterator-loop-fact).can_next l.fact-iterator
    × (goal.iterator-loop-fact).is_finite l.fact-iterator
    × map (λ fact. fact.now) l.facts.items ++ l.fact-iterator
    ≡ map (λ fact. fact.now) l.initial.facts.items ++ facts_of l.book
