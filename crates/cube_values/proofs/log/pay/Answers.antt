use Rattle.cube_values.proofs.OwedLaws.{SameHeld-TakesAll}
use Rattle.cube_values.proofs.log.pay.Goals as goal

pub returns-clause-same : goal.returns-clause-same
returns-clause-same c = SameHeld-TakesAll c.args.pairs.now c.bring_in_order.new.pairs c.take_all.new.pairs
    c.args.owed.now c.bring_in_order.ensures.same c.take_all.ensures.taken
