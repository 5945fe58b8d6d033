use Rattle.std.proofs.Common.{refl, rules, take, arith, ap}
use Rattle.cube_cells.specs.Tally.{Tally}
use Rattle.cube_cells.proofs.Tallies.ValueLaws.{AreWithin-AddsValues, take-append-drop}
use Rattle.cube_cells.proofs.Tallies.FactLaws.{holds_fact-AddsValues}
use Rattle.cube_cells.proofs.cell.Cell.gather.Goals as goal

pub gather_values-requires-clause-fits : goal.gather_values-requires-clause-fits
gather_values-requires-clause-fits g c = rw c.deref_mut.ensures.value
    (λ k d inside. omega (
      arith,
      c.self.invariant k d inside,
      c.requires.fits,
      ap (λ (t : Tally). t.facts) c.self.view_is,
    ))

pub invariant_of-self : goal.invariant_of-self
invariant_of-self g c =
    let added = rw c.deref_mut.ensures.value at c.in_default.ensures.added in
    let same = take-append-drop c.self.inside.measures.items c.gather_values.new.measures c.self.inside.measures.len
    (search rules) added.same_length in
    rw same (AreWithin-AddsValues c.self.inside.facts c.self.inside.measures.items c.gather_values.new.measures
    c.args.values.now added c.self.invariant)

pub invariant_of-self-2 : goal.invariant_of-self-2
invariant_of-self-2 g c =
    let some = rw c.deref_mut.ensures.value at c.in-Err.ensures.some in
    let same = take-append-drop c.self.inside.measures.items c.gather_values.new.measures c.self.inside.measures.len
    (search rules) some.same_length in
    rw same (AreWithin-AddsValues c.self.inside.facts c.self.inside.measures.items c.gather_values.new.measures
    (take c.in-Err.field-0 c.args.values.now) some c.self.invariant)

pub returns-in_default-clause-held : goal.returns-in_default-clause-held
returns-in_default-clause-held g c =
    let added = rw c.deref_mut.ensures.value at c.in_default.ensures.added in
    let same = take-append-drop c.self.inside.measures.items c.gather_values.new.measures c.self.inside.measures.len
    (search rules) added.same_length in
    let width = rw (← c.self.view_is) at c.requires.width in
    rw same (holds_fact-AddsValues c.self.inside.facts c.self.inside.measures.items c.gather_values.new.measures
    c.args.values.now c.self.invariant added width)

pub returns-in_default-clause-added : goal.returns-in_default-clause-added
returns-in_default-clause-added g c =
    let added = rw c.deref_mut.ensures.value at c.in_default.ensures.added in
    let same = take-append-drop c.self.inside.measures.items c.gather_values.new.measures c.self.inside.measures.len
    (search rules) added.same_length in
    rw (← c.self.view_is, same) (record { facts = refl; bags = added })
