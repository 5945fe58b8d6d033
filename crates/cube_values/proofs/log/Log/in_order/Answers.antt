use Rattle.cube_values.proofs.StatisticsLaws.{AreInOrder-SameHeld}
use Rattle.cube_values.proofs.log.Log.in_order.Goals as goal

pub returns : goal.returns
returns c = AreInOrder-SameHeld c.args.self.now c.in_ok-pairs.pairs.items c.drop_uncounted.new.pairs.items
    c.in_ok-pairs.ensures.same (c.drop_uncounted.ensures.ordered c.in_ok-pairs.ensures.ordered)
