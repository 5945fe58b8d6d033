use Rattle.std.proofs.Common.{◌≡◌, ◌≤◌, ◌<◌, ◌-◌, ◌∙◌, ap, arith, false, length, refl, sym}
use Rattle.std.proofs.lemmas.List.{get_or_default}
use Rattle.cube_core.specs.Layout.{Layout}
use Rattle.cube_core.specs.Takes.{fits}
use Rattle.cube_ledger.specs.Ledger.{LedgerView, account_of}
use Rattle.cube_build.specs.Counting.{CounterView, with_entry}
use Rattle.cube_build.proofs.CountingLaws.{MayPut, counter-putting, counter-spent, counter-unspent, counts-put}
use Rattle.cube_build.proofs.CountingLaws.{long-account}
use Rattle.cube_build.proofs.counter.Counter.count.Given.{Over}
use Rattle.cube_build.proofs.counter.Counter.count.Goals.{In-Ok}
use Rattle.cube_build.proofs.counter.Counter.count.Goals as goal

-- the cube has the schema of the ledger that is kept
pub admit-requires : goal.admit-requires
admit-requires g c =
    c.self.invariant.schema ∙ sym c.self.invariant.noted.schema ∙ sym c.schema-schema.ensures.value

-- memory ran out, or the item is none of a feed without ids
pub invariant_of-self-in-Err : goal.invariant_of-self-in-Err
invariant_of-self-in-Err g c =
    counter-spent c.self.inside.is_spent c.self.inside.conditions.now c.self.inside.refused
    c.self.inside.trace.ledger c.self.inside.weights.items c.self.inside.cube c.admit.new.cube c.admit.ensures.schema
    c.self.invariant

-- the source is one of the ledger's, and its last id weighs less
may : (g : Over) (c : In-Ok g) → MayPut c.self.inside.trace.ledger c.self.inside.weights.items c.args.source c.args.id.now
may g c =
    let weights = c.self.inside.weights.items in
    let last : c.args.source ≤ length c.self.inside.trace.ledger.accounts =
    rw (← c.self.view_is) at c.requires.source.1 in
    let place : c.args.source - 1 < length weights =
    omega (arith, c.requires.source.0, last, c.self.invariant.long) in
    let kept = get_or_default weights (c.args.source - 1) 0 c.index-last.result.now place in
    record {
      first = c.requires.source.0;
      last = last;
      long = c.self.invariant.long;
      heavier = omega (arith, kept, c.weight_of-weight.ensures, c.in-Ok.ensures.admits.heavier, c.index-last.ensures);
    }

-- the fact is counted
pub invariant_of-self : goal.invariant_of-self
invariant_of-self g c =
    let at = goal.at.invariant_of-self g c in
    let unspent : c.self.inside.is_spent ≡ false = rw (← c.self.view_is) at c.requires.unspent in
    let admits = c.in-Ok.ensures.admits in
    rw (unspent, c.putting-self-inside.ensures, c.weight_of-weight.ensures)
    (counter-putting c.self.inside.conditions.now c.self.inside.refused c.self.inside.trace.ledger c.args.source c.args.id.now c.args.fact.now
    c.self.inside.weights.items c.self.inside.cube c.admit.new.cube (may g at.In-Ok)
    (ap (λ (s : Layout). fits s c.args.fact.now) (sym c.self.invariant.schema) ∙ admits.fit) admits.gains
    (counter-unspent c.self.inside.is_spent c.self.inside.conditions.now c.self.inside.refused
    c.self.inside.trace.ledger c.self.inside.weights.items c.self.inside.cube unspent c.self.invariant))

pub returns-in-Ok-clause-counts : goal.returns-in-Ok-clause-counts
returns-in-Ok-clause-counts g c =
    let at = goal.at.returns-in-Ok-clause-counts g c in
    let unspent : c.self.inside.is_spent ≡ false = rw (← c.self.view_is) at c.requires.unspent in
    let admits = c.in-Ok.ensures.admits in
    let old : CounterView = record {
      is_spent = c.self.inside.is_spent;
      conditions = c.self.inside.conditions.now;
      ledger = c.self.inside.trace.ledger;
    } in
    let new : CounterView = record {
      is_spent = c.self.inside.is_spent;
      conditions = c.self.inside.conditions.now;
      ledger = c.putting-self-inside.result.ledger;
    } in
    rw (← c.self.view_is)
    (counts-put old new c.self.inside.weights.items c.args.source c.args.number c.args.id.now c.args.fact.now unspent
    refl c.putting-self-inside.ensures (may g at.In-Ok) (c.self.invariant.counted unspent).weighed
    (ap (λ (s : Layout). fits s c.args.fact.now) (sym c.self.invariant.schema) ∙ admits.fit))

pub returns-in-Ok-clause-sources : goal.returns-in-Ok-clause-sources
returns-in-Ok-clause-sources g c =
    let ledger = c.self.inside.trace.ledger in
    rw (← c.self.view_is)
    (ap (λ (l : LedgerView). length l.accounts) c.putting-self-inside.ensures
    ∙ long-account ledger c.args.source (with_entry (account_of ledger c.args.source) c.args.id.now c.args.fact.now))
