use Rattle.cube_cells.proofs.Tallies.TallyLaws.{IsGreatest-HasGreatest}
use Rattle.cube_cells.proofs.measure.Measure.greatest.Goals as goal

pub returns : goal.returns
returns g c = λ values is.
    let bag = g.N.Numbers.bag in
    IsGreatest-HasGreatest values (bag c.self.inside.values) c.greatest.result c.answer_of.result (rw c.self.view_is is)
    c.greatest.ensures.none c.greatest.ensures.greatest c.answer_of.ensures.none c.answer_of.ensures.some
