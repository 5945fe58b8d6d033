use Rattle.std.proofs.Common.{arith, ◌≡◌, ◌<◌}
use Rattle.std.proofs.lemmas.Bool.Decides.{nat_tests}
use Rattle.cube_values.specs.Bag.{size_of}
use Rattle.cube_cells.proofs.Tallies.StatisticsLaws.{IsSumOfSquares-Null, IsSumOfSquares-Squares}
use Rattle.cube_cells.proofs.measure.Measure.sum_of_squares.Goals as goal

pub returns-then-is_empty : goal.returns-then-is_empty
returns-then-is_empty g c = λ values is.
    let bag = g.N.Numbers.bag in
    let none : size_of (bag c.self.inside.values) ≡ 0 = grind (arith, nat_tests) in
    IsSumOfSquares-Null values (bag c.self.inside.values) (rw c.self.view_is is) none

pub returns : goal.returns
returns g c = λ values is.
    let bag = g.N.Numbers.bag in
    let some : 0 < size_of (bag c.self.inside.values) = grind (arith, nat_tests) in
    IsSumOfSquares-Squares values (bag c.self.inside.values) c.squares.result (rw c.self.view_is is) some
    (c.squares.ensures c.requires)
