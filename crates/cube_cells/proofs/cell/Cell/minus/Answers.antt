use Rattle.std.proofs.Common.{rules, arith, sym, length, ◌≤◌}
use Rattle.cube_cells.specs.Tally.{Tally}
use Rattle.cube_cells.proofs.Tallies.ValueLaws.{holds_fact-length, holds_fact-value_at, AreWithin-holds_fact}
use Rattle.cube_cells.proofs.Tallies.ValueLaws.{take-append-drop}
use Rattle.cube_cells.proofs.cell.Cell.minus.Goals as goal

pub take_values-requires-clause-width : goal.take_values-requires-clause-width
take_values-requires-clause-width c =
    let t : Tally = record { facts = c.self.inside.facts; bags = c.self.inside.measures.items } in
    let held = rw (← c.self.view_is) at c.requires in
    let narrow : length c.args.values.now ≤ length c.self.inside.measures.items =
    omega (arith, holds_fact-length t c.args.values.now held) in
    rw c.deref_mut.ensures.value narrow

pub take_values-requires-clause-held : goal.take_values-requires-clause-held
take_values-requires-clause-held c =
    let t : Tally = record { facts = c.self.inside.facts; bags = c.self.inside.measures.items } in
    let held = rw (← c.self.view_is) at c.requires in
    rw c.deref_mut.ensures.value (holds_fact-value_at t c.args.values.now held)

pub invariant_of-self : goal.invariant_of-self
invariant_of-self c =
    let t : Tally = record { facts = c.self.inside.facts; bags = c.self.inside.measures.items } in
    let held = rw (← c.self.view_is) at c.requires in
    let taken = rw c.deref_mut.ensures.value at c.take_values.ensures in
    let same = take-append-drop c.self.inside.measures.items c.take_values.new.measures c.self.inside.measures.len
    (search rules) (sym taken.same_length) in
    rw same (AreWithin-holds_fact t c.take_values.new.measures c.args.values.now held taken c.self.invariant)
