use Rattle.std.proofs.Common.{rules, FitsSigned}
use Rattle.std.specs.Int.{w128}
use Rattle.std.proofs.lemmas.Int.{to_z-of_z}
use Rattle.cube_cells.proofs.Tallies.StatisticsLaws.{IsVarianceAnswer-Null, IsVarianceAnswer-Variance}
use Rattle.cube_cells.proofs.measure.Measure.variance.Goals as goal

pub returns-in-Some : goal.returns-in-Some
returns-in-Some g c = λ values is.
    let fits : FitsSigned w128 c.self.inside.sum = search rules in
    let reduced = rw (c.len.ensures, c.squares-squares.ensures c.requires) at (simp to_z-of_z at c.in-Some.ensures) in
    IsVarianceAnswer-Variance c.args.is_sample values (g.N.Numbers.bag c.self.inside.values) c.self.inside.sum _ _
    (rw c.self.view_is is) c.self.invariant reduced

pub returns-in-None : goal.returns-in-None
returns-in-None g c = λ values is.
    IsVarianceAnswer-Null c.args.is_sample values (g.N.Numbers.bag c.self.inside.values) (rw c.self.view_is is)
    (rw c.len.ensures at c.in-None.ensures)
