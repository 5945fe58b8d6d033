use Rattle.std.proofs.Common.{rules, sym, arith, ap}
use Rattle.cube_cells.specs.Tally.{Tally}
use Rattle.cube_cells.proofs.Tallies.ValueLaws.{AreWithin-AddsValues, AreWithin-SameBags, take-append-drop}
use Rattle.cube_cells.proofs.Tallies.FactLaws.{holds_fact-AddsValues}
use Rattle.cube_cells.proofs.cell.Cell.plus.Goals as goal

pub add_values-requires-clause-fits : goal.add_values-requires-clause-fits
add_values-requires-clause-fits c = rw c.deref_mut.ensures.value
    (λ k d inside. omega (
      arith,
      c.self.invariant k d inside,
      c.requires.fits,
      ap (λ (t : Tally). t.facts) c.self.view_is,
    ))

pub invariant_of-self : goal.invariant_of-self
invariant_of-self c =
    let same_bags = rw c.deref_mut.ensures.value at c.in_err-add_values.ensures.err in
    let same = take-append-drop c.self.inside.measures.items c.add_values.new.measures c.self.inside.measures.len
    (search rules) (sym same_bags.same_length) in
    rw same (AreWithin-SameBags c.self.inside.facts c.self.inside.measures.items c.add_values.new.measures same_bags
    c.self.invariant)

pub invariant_of-self-2 : goal.invariant_of-self-2
invariant_of-self-2 c =
    let added = rw c.deref_mut.ensures.value at c.in_ok-add_values.ensures.added in
    let same = take-append-drop c.self.inside.measures.items c.add_values.new.measures c.self.inside.measures.len
    (search rules) added.same_length in
    rw same (AreWithin-AddsValues c.self.inside.facts c.self.inside.measures.items c.add_values.new.measures
    c.args.values.now added c.self.invariant)

pub returns-clause-held : goal.returns-clause-held
returns-clause-held c =
    let added = rw c.deref_mut.ensures.value at c.in_ok-add_values.ensures.added in
    let same = take-append-drop c.self.inside.measures.items c.add_values.new.measures c.self.inside.measures.len
    (search rules) added.same_length in
    let width = rw (← c.self.view_is) at c.requires.width in
    rw same (holds_fact-AddsValues c.self.inside.facts c.self.inside.measures.items c.add_values.new.measures
    c.args.values.now c.self.invariant added width)
