use Rattle.std.proofs.Common.{rules}
use Rattle.cube_values.specs.Statistics.{HasDifferent}
use Rattle.cube_cells.proofs.Tallies.StatisticsLaws.{IsDistinctCount-HasDifferent}
use Rattle.cube_cells.proofs.measure.Measure.different.Goals as goal

pub returns : goal.returns
returns g c = λ values is.
    let bag = g.N.Numbers.bag in
    let different : HasDifferent (bag c.self.inside.values) c.in_ok-number.number = search rules in
    IsDistinctCount-HasDifferent values (bag c.self.inside.values) c.in_ok-number.number (rw c.self.view_is is) different
