use Rattle.std.proofs.Common.{ℤ, List, ◌≡◌, ◌<◌, ◌≤◌, ◌*◌, ◌^◌, length, arith, rules}
use Rattle.cube_core.specs.Variance.{square}
use Rattle.cube_values.specs.Bag.{size_of}
use Rattle.cube_values.specs.Narrow.{once_each}
use Rattle.cube_values.specs.Statistics.{squares_held}
use Rattle.cube_values.proofs.BagLaws.{weight_of-bag}
use Rattle.cube_values.proofs.NarrowLaws.{size_of-once_each}
use Rattle.cube_values.proofs.ordered.Ordered.squares.Goals as goal

pub minus-requires : goal.minus-requires
minus-requires c =
    let numbers : List ℤ = c.self.inside.numbers.items in
    let taken : List ℤ = c.self.inside.taken.items in
    let all : c.narrow_squares.result ≡ squares_held (once_each numbers) = search rules in
    let owed : c.narrow_squares-2.result ≡ squares_held (once_each taken) = search rules in
    omega (
      arith,
      all,
      owed,
      weight_of-bag square c.self.inside.trace.bag (once_each numbers) (once_each taken) c.self.invariant.same,
    )

pub returns-clause-value : goal.returns-clause-value
returns-clause-value c =
    let numbers : List ℤ = c.self.inside.numbers.items in
    let taken : List ℤ = c.self.inside.taken.items in
    let all : c.narrow_squares.result ≡ squares_held (once_each numbers) = search rules in
    let owed : c.narrow_squares-2.result ≡ squares_held (once_each taken) = search rules in
    rw (← c.self.view_is) (omega (
      arith,
      all,
      owed,
      c.minus.ensures,
      weight_of-bag square c.self.inside.trace.bag (once_each numbers) (once_each taken) c.self.invariant.same,
    ))

pub returns-clause-bound : goal.returns-clause-bound
returns-clause-bound c =
    let numbers : List ℤ = c.self.inside.numbers.items in
    let bound : c.narrow_squares.result ≤ 2 ^ 126 * size_of (once_each numbers) =
    rw c.deref.ensures.value at c.narrow_squares.ensures.bound in
    let fits : length numbers < 2 ^ 64 = search rules in
    omega (arith, c.minus.ensures, bound, fits, size_of-once_each numbers)
