use Rattle.std.proofs.Common.{rules, arith, ◌≡◌, ◌<◌, FitsSigned}
use Rattle.std.specs.Int.{w128}
use Rattle.std.proofs.lemmas.Bool.Decides.{nat_tests}
use Rattle.std.proofs.lemmas.Int.{to_z-of_z}
use Rattle.cube_values.specs.Bag.{size_of}
use Rattle.cube_cells.proofs.Tallies.TallyLaws.{IsMean-Null, IsMean-Ratio}
use Rattle.cube_cells.proofs.measure.Measure.mean.Goals as goal

pub returns-then-is_empty : goal.returns-then-is_empty
returns-then-is_empty g c = λ values is.
    let bag = g.N.Numbers.bag in
    let none : size_of (bag c.self.inside.values) ≡ 0 = grind (arith, nat_tests) in
    IsMean-Null values (bag c.self.inside.values) (rw c.self.view_is is) none

pub returns : goal.returns
returns g c = λ values is.
    let bag = g.N.Numbers.bag in
    let fits : FitsSigned w128 c.self.inside.sum = search rules in
    let some : 0 < size_of (bag c.self.inside.values) = grind (arith, nat_tests) in
    let quotient_fits : FitsSigned w128 c.lowest_terms-p.result.0 = search rules in
    let lowest = rw c.len.ensures at (simp to_z-of_z at c.lowest_terms-p.ensures) in
    simp to_z-of_z
    (IsMean-Ratio values (bag c.self.inside.values) c.self.inside.sum c.lowest_terms-p.result.0 c.lowest_terms-p.result.1
    (rw c.self.view_is is) c.self.invariant some lowest)
