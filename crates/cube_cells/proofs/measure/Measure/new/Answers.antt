use Rattle.cube_cells.proofs.Tallies.SumLaws.{IsSumOf-nothing}
use Rattle.cube_cells.proofs.measure.Measure.new.Goals as goal

pub invariant_of-result : goal.invariant_of-result
invariant_of-result g c =
    let bag = g.N.Numbers.bag in
    IsSumOf-nothing (bag c.new.result) c.new.ensures.held
