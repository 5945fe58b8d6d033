use Rattle.cube_values.specs.Bag.{HasEnds}
use Rattle.cube_values.proofs.EndLaws.{HasEnds-SameHeld}
use Rattle.cube_values.proofs.log.reopened.Goals as goal

pub returns-clause-ends : goal.returns-clause-ends
returns-clause-ends c =
    let ends : HasEnds c.args.pairs.now.items c.in_ok-ends.ends.least c.in_ok-ends.ends.greatest =
    rw c.deref.ensures.value at c.in_ok-ends.ensures in
    HasEnds-SameHeld c.args.pairs.now.items c.drop_uncounted.new.pairs.items c.in_ok-ends.ends.least
    c.in_ok-ends.ends.greatest c.drop_uncounted.ensures.same ends
