use Rattle.std.proofs.Common.{rules}
use Rattle.cube_values.specs.Statistics.{AreInOrder}
use Rattle.cube_cells.proofs.Tallies.StatisticsLaws.{AreValues-AreInOrder}
use Rattle.cube_cells.proofs.measure.Measure.in_order.Goals as goal

pub returns : goal.returns
returns g c = λ values is.
    let bag = g.N.Numbers.bag in
    let are : AreInOrder (bag c.self.inside.values) c.in_ok-held.held.items = search rules in
    rw c.from_vec.ensures
    (AreValues-AreInOrder values (bag c.self.inside.values) c.in_ok-held.held.items (rw c.self.view_is is) are)
