use Rattle.cube_cells.proofs.Tallies.TallyLaws.{IsLeast-HasLeast}
use Rattle.cube_cells.proofs.measure.Measure.least.Goals as goal

pub returns : goal.returns
returns g c = λ values is.
    let bag = g.N.Numbers.bag in
    IsLeast-HasLeast values (bag c.self.inside.values) c.least.result c.answer_of.result
    (rw c.self.view_is is) c.least.ensures.none c.least.ensures.least c.answer_of.ensures.none c.answer_of.ensures.some
