use Rattle.std.proofs.Common.{◌≡◌, ◌≤◌, ◌∙◌, ap, arith, false, length, refl, sym}
use Rattle.cube_core.specs.Layout.{Layout}
use Rattle.cube_core.specs.Refusals.{code_of_fault}
use Rattle.cube_ledger.specs.Ledger.{LedgerView, account_of, with_refusal}
use Rattle.cube_build.specs.Counting.{CounterView}
use Rattle.cube_build.proofs.CountingLaws.{counter-refusing, counter-spent, counter-unspent, counts-fault}
use Rattle.cube_build.proofs.CountingLaws.{long-account, long-refused}
use Rattle.cube_build.proofs.counter.Counter.refuse.Goals as goal

-- the source is one of the ledger's that is kept
pub note_fault-requires : goal.note_fault-requires
note_fault-requires g c =
    let last : c.args.source ≤ length c.self.inside.trace.ledger.accounts =
    rw (← c.self.view_is) at c.requires.source.1 in
    let long = long-refused c.self.inside.refused c.self.inside.trace.ledger c.self.invariant.noted in
    (c.requires.source.0, omega (arith, last, long))

-- the line fault is noted
pub invariant_of-self : goal.invariant_of-self
invariant_of-self g c =
    let unspent : c.self.inside.is_spent ≡ false = rw (← c.self.view_is) at c.requires.unspent in
    let last : c.args.source ≤ length c.self.inside.trace.ledger.accounts =
    rw (← c.self.view_is) at c.requires.source.1 in
    rw (unspent, c.refusing-self-inside.ensures) (counter-refusing c.self.inside.conditions.now c.self.inside.refused
    c.note_fault.new.ledger c.self.inside.trace.ledger c.args.source c.args.number c.in-Ok.code
    c.self.inside.weights.items c.self.inside.cube c.requires.source.0 last c.in-Ok.ensures.noted.noted
    (counter-unspent c.self.inside.is_spent c.self.inside.conditions.now c.self.inside.refused
    c.self.inside.trace.ledger c.self.inside.weights.items c.self.inside.cube unspent c.self.invariant))

-- memory ran out
pub invariant_of-self-in-Err : goal.invariant_of-self-in-Err
invariant_of-self-in-Err g c =
    rw c.in-Err.ensures.same (counter-spent c.self.inside.is_spent c.self.inside.conditions.now
    c.self.inside.refused c.self.inside.trace.ledger c.self.inside.weights.items c.self.inside.cube
    c.self.inside.cube refl c.self.invariant)

pub returns-in-Ok-clause-counts : goal.returns-in-Ok-clause-counts
returns-in-Ok-clause-counts g c =
    let unspent : c.self.inside.is_spent ≡ false = rw (← c.self.view_is) at c.requires.unspent in
    let old : CounterView = record {
      is_spent = c.self.inside.is_spent;
      conditions = c.self.inside.conditions.now;
      ledger = c.self.inside.trace.ledger;
    } in
    let new : CounterView = record {
      is_spent = c.self.inside.is_spent;
      conditions = c.self.inside.conditions.now;
      ledger = c.refusing-self-inside.result.ledger;
    } in
    rw (← c.self.view_is)
    (counts-fault old new c.args.source c.args.number c.args.fault c.in-Ok.code unspent refl
    c.refusing-self-inside.ensures
    (ap (λ (s : Layout). code_of_fault s c.args.fault) (sym c.self.invariant.noted.schema)
    ∙ c.in-Ok.ensures.noted.coded))

pub returns-in-Ok-clause-sources : goal.returns-in-Ok-clause-sources
returns-in-Ok-clause-sources g c =
    let ledger = c.self.inside.trace.ledger in
    rw (← c.self.view_is)
    (ap (λ (l : LedgerView). length l.accounts) c.refusing-self-inside.ensures
    ∙ long-account ledger c.args.source
    (with_refusal (account_of ledger c.args.source) c.args.number c.in-Ok.code))
