use Rattle.std.proofs.Common.{rules, refl, ◌≡◌, ap, length}
use Rattle.cube_cells.proofs.Tallies.ValueLaws.{take-append-drop}
use Rattle.cube_cells.proofs.cell.Cell.shrink_to_fit.Goals as goal

pub invariant_of-self : goal.invariant_of-self
invariant_of-self g c =
    let is : c.shrink_measures.new.measures ≡ c.self.inside.measures.items =
    rw c.deref_mut.ensures.value at c.shrink_measures.ensures in
    let same = take-append-drop c.self.inside.measures.items c.shrink_measures.new.measures c.self.inside.measures.len
    (search rules) (ap length is) in
    rw (same, is) c.self.invariant

pub returns-then-self-gt1 : goal.returns-then-self-gt1
returns-then-self-gt1 g c =
    let is : c.shrink_measures.new.measures ≡ c.self.inside.measures.items =
    rw c.deref_mut.ensures.value at c.shrink_measures.ensures in
    let same = take-append-drop c.self.inside.measures.items c.shrink_measures.new.measures c.self.inside.measures.len
    (search rules) (ap length is) in
    rw (← c.self.view_is, same, is) refl
