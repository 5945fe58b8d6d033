use Rattle.std.proofs.Common.{rules, ◌∙◌}
use Rattle.cube_values.specs.Bag.{Bag, SameHeld}
use Rattle.cube_values.proofs.OwedLaws.{written_back}
use Rattle.cube_values.proofs.StatisticsLaws.{AreInOrder-SameHeld}
use Rattle.cube_values.proofs.log.put_in_order.Goals as goal

pub returns : goal.returns
returns c =
    let old : Bag = c.args.pairs.items in
    let sorted : Bag = c.bring_in_order.new.pairs in
    let items = written_back sorted old c.args.pairs.len c.args.pairs.ok.0
    (c.bring_in_order.auto.pairs ∙ c.deref_mut.ensures.len) in
    let same : SameHeld old sorted = search rules in
    AreInOrder-SameHeld old sorted c.drop_uncounted.new.pairs.items same
    ((rw items at c.drop_uncounted.ensures.ordered) c.bring_in_order.ensures.ordered)
