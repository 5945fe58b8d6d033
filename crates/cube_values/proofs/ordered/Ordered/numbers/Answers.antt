use Rattle.std.proofs.Common.{ℤ, List, ◌≡◌, length, arith, rules}
use Rattle.cube_values.specs.Narrow.{once_each}
use Rattle.cube_values.proofs.BagLaws.{held_le_size}
use Rattle.cube_values.proofs.NarrowLaws.{size_of-once_each}
use Rattle.cube_values.proofs.ordered.Ordered.numbers.Goals as goal

pub returns-then-is_empty : goal.returns-then-is_empty
returns-then-is_empty c =
    let taken : List ℤ = c.self.inside.taken.items in
    let none : length taken ≡ 0 = search rules in
    rw (← c.self.view_is, c.deref.ensures.value) (record {
      held = λ x. omega (
        arith,
        c.self.invariant.same.held x,
        none,
        size_of-once_each taken,
        held_le_size (once_each taken) x,
      );
    })
