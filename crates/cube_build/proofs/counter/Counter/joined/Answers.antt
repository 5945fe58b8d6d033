use Rattle.std.proofs.Common.{◌≡◌, ◌∙◌, arith, false, refl, sym}
use Rattle.cube_core.specs.Conditions.{of_interest}
use Rattle.cube_ledger.specs.Ledger.{all_facts}
use Rattle.cube_build.specs.CounterShares.{IsJoined}
use Rattle.cube_build.proofs.CounterShareLaws.{counter-joined}
use Rattle.cube_build.proofs.CountingLaws.{counter-unspent, finest-all, long-refused}
use Rattle.cube_build.proofs.counter.Counter.joined.Goals as goal

pub merged-requires-clause-schema : goal.merged-requires-clause-schema
merged-requires-clause-schema g c =
    let alike : c.others.inside.trace.ledger.schema ≡ c.self.inside.trace.ledger.schema =
    rw (← c.others.view_is, ← c.self.view_is) at c.requires.schema in
    c.others.invariant.schema ∙ alike ∙ sym c.self.invariant.schema

pub merged-requires-clause-sets : goal.merged-requires-clause-sets
merged-requires-clause-sets g c = (c.self.invariant.counted (rw (← c.self.view_is) at c.requires.unspent.0)).sets

pub merged-requires-clause-more_sets : goal.merged-requires-clause-more_sets
merged-requires-clause-more_sets g c = (c.others.invariant.counted (rw (← c.others.view_is) at c.requires.unspent.1)).sets

pub merged-requires-clause-facts : goal.merged-requires-clause-facts
merged-requires-clause-facts g c = (
  of_interest c.self.inside.conditions.now (all_facts c.self.inside.trace.ledger.accounts),
  finest-all c.self.inside.conditions.now c.self.inside.refused c.self.inside.trace.ledger
      c.self.inside.weights.items c.self.inside.cube
      (counter-unspent c.self.inside.is_spent c.self.inside.conditions.now c.self.inside.refused
      c.self.inside.trace.ledger c.self.inside.weights.items c.self.inside.cube
      (rw (← c.self.view_is) at c.requires.unspent.0) c.self.invariant),
)

pub merged-requires-clause-more_facts : goal.merged-requires-clause-more_facts
merged-requires-clause-more_facts g c = (
  of_interest c.others.inside.conditions.now (all_facts c.others.inside.trace.ledger.accounts),
  finest-all c.others.inside.conditions.now c.others.inside.refused c.others.inside.trace.ledger
      c.others.inside.weights.items c.others.inside.cube
      (counter-unspent c.others.inside.is_spent c.others.inside.conditions.now c.others.inside.refused
      c.others.inside.trace.ledger c.others.inside.weights.items c.others.inside.cube
      (rw (← c.others.view_is) at c.requires.unspent.1) c.others.invariant),
)

pub append-requires-clause-schema : goal.append-requires-clause-schema
append-requires-clause-schema g c =
    let alike : c.others.inside.trace.ledger.schema ≡ c.self.inside.trace.ledger.schema =
    rw (← c.others.view_is, ← c.self.view_is) at c.requires.schema in
    c.others.invariant.noted.schema ∙ alike ∙ sym c.self.invariant.noted.schema

pub append-requires-clause-most : goal.append-requires-clause-most
append-requires-clause-most g c = omega (
  arith,
  rw (← c.others.view_is, ← c.self.view_is) at c.requires.most,
  long-refused c.self.inside.refused c.self.inside.trace.ledger c.self.invariant.noted,
  long-refused c.others.inside.refused c.others.inside.trace.ledger c.others.invariant.noted,
)

pub invariant_of-result : goal.invariant_of-result
invariant_of-result g c =
    let unspent : c.self.inside.is_spent ≡ false = rw (← c.self.view_is) at c.requires.unspent.0 in
    let more_unspent : c.others.inside.is_spent ≡ false = rw (← c.others.view_is) at c.requires.unspent.1 in
    let alike : c.others.inside.trace.ledger.schema ≡ c.self.inside.trace.ledger.schema =
    rw (← c.others.view_is, ← c.self.view_is) at c.requires.schema in
    let conditions : c.others.inside.conditions.now ≡ c.self.inside.conditions.now =
    rw (← c.others.view_is, ← c.self.view_is) at c.requires.conditions in
    rw (unspent, c.appending-trace.ensures, c.in_ok-append-2.ensures.items) (counter-joined
    c.self.inside.conditions.now c.self.inside.refused c.others.inside.refused c.append.new.self
    c.self.inside.trace.ledger c.others.inside.trace.ledger c.self.inside.weights.items c.others.inside.weights.items
    c.self.inside.cube c.others.inside.cube c.in_ok-cube.cube alike c.append.ensures.schema
    c.in_ok-append.ensures.accounts c.in_ok-cube.ensures.same c.in_ok-cube.ensures.facts
    (counter-unspent c.self.inside.is_spent c.self.inside.conditions.now c.self.inside.refused
    c.self.inside.trace.ledger c.self.inside.weights.items c.self.inside.cube unspent c.self.invariant)
    (rw conditions at (counter-unspent c.others.inside.is_spent c.others.inside.conditions.now c.others.inside.refused
    c.others.inside.trace.ledger c.others.inside.weights.items c.others.inside.cube more_unspent c.others.invariant)))

pub returns : goal.returns
returns g c =
    let unspent : c.self.inside.is_spent ≡ false = rw (← c.self.view_is) at c.requires.unspent.0 in
    let joined : IsJoined (record {
      is_spent = c.self.inside.is_spent;
      conditions = c.self.inside.conditions.now;
      ledger = c.self.inside.trace.ledger;
    }) (record {
      is_spent = c.others.inside.is_spent;
      conditions = c.others.inside.conditions.now;
      ledger = c.others.inside.trace.ledger;
    }) (record {
      is_spent = c.self.inside.is_spent;
      conditions = c.self.inside.conditions.now;
      ledger = c.appending-trace.result.ledger;
    }) = record { conditions = refl; ledger = c.appending-trace.ensures; unspent = unspent } in
    rw (← c.self.view_is, ← c.others.view_is) joined
