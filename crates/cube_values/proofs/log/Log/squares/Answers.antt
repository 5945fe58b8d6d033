use Rattle.std.proofs.Common.{ℤ, List, ◌≡◌, arith, rules}
use Rattle.cube_core.specs.Variance.{square}
use Rattle.cube_values.specs.Bag.{Bag}
use Rattle.cube_values.specs.Narrow.{once_each}
use Rattle.cube_values.specs.Statistics.{squares_held}
use Rattle.cube_values.proofs.OwedLaws.{weight_of-owed}
use Rattle.cube_values.proofs.log.Log.squares.Goals as goal

pub minus-requires : goal.minus-requires
minus-requires c =
    let pairs : Bag = c.self.inside.pairs.items in
    let taken : List ℤ = c.self.inside.taken.items in
    let added : c.pairs_squares.result ≡ squares_held pairs = search rules in
    let owed : c.numbers_squares.result ≡ squares_held (once_each taken) = search rules in
    omega (arith, added, owed, weight_of-owed square taken pairs c.self.invariant.0.covered)

pub returns-clause-value : goal.returns-clause-value
returns-clause-value c =
    let pairs : Bag = c.self.inside.pairs.items in
    let taken : List ℤ = c.self.inside.taken.items in
    let added : c.pairs_squares.result ≡ squares_held pairs = search rules in
    let owed : c.numbers_squares.result ≡ squares_held (once_each taken) = search rules in
    rw (← c.self.view_is)
    (omega (arith, added, owed, c.minus.ensures, weight_of-owed square taken pairs c.self.invariant.0.covered))
