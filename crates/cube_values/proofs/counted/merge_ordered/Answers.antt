use Rattle.std.proofs.Common.{arith}
use Rattle.std.proofs.lemmas.Result.{on_ok_weaker}
use Rattle.cube_values.specs.Bag.{Bag}
use Rattle.cube_values.specs.Narrow.{once_each}
use Rattle.cube_values.specs.Values.{bag_of}
use Rattle.cube_values.proofs.BagLaws.{size_of_same}
use Rattle.cube_values.proofs.EndLaws.{HasEnds-SameHeld}
use Rattle.cube_values.proofs.OwedLaws.{AddsBag-SameHeld}
use Rattle.cube_values.proofs.counted.merge_ordered.Goals as goal

pub merge_list-requires-clause-fits : goal.merge_list-requires-clause-fits
merge_list-requires-clause-fits c = omega (
  arith,
  c.requires,
  size_of_same c.args.more.now (once_each c.in-Some.numbers.now) c.in-Some.ensures,
)

pub returns-in-Some : goal.returns-in-Some
returns-in-Some c = on_ok_weaker c.merge_list.result (AddsBag-SameHeld (bag_of c.args.values.now)
    (bag_of c.merge_list.new.values) c.args.more.now (once_each c.in-Some.numbers.now) c.in-Some.ensures)
    c.merge_list.ensures

pub merge_list-requires-2-clause-ends : goal.merge_list-requires-2-clause-ends
merge_list-requires-2-clause-ends c =
    let listed : Bag = once_each c.in_ok-numbers.numbers.items in
    rw c.deref.ensures.value (HasEnds-SameHeld c.args.more.now listed c.ends-2.result.0 c.ends-2.result.1
    c.in_ok-numbers.ensures.same c.ends-2.ensures)

pub merge_list-requires-2-clause-fits : goal.merge_list-requires-2-clause-fits
merge_list-requires-2-clause-fits c =
    let listed : Bag = once_each c.in_ok-numbers.numbers.items in
    rw c.deref.ensures.value
    (omega (arith, c.requires, size_of_same c.args.more.now listed c.in_ok-numbers.ensures.same))

pub returns : goal.returns
returns c =
    let listed : Bag = once_each c.in_ok-numbers.numbers.items in
    on_ok_weaker c.merge_list-2.result (AddsBag-SameHeld (bag_of c.args.values.now) (bag_of c.merge_list-2.new.values)
    c.args.more.now listed c.in_ok-numbers.ensures.same) (rw c.deref.ensures.value at c.merge_list-2.ensures)
