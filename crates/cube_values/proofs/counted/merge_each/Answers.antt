use Rattle.std.proofs.Common.{arith, rules}
use Rattle.std.proofs.lemmas.Result.{on_ok_weaker}
use Rattle.cube_values.specs.Bag.{SameHeld}
use Rattle.cube_values.specs.Values.{bag_of}
use Rattle.cube_values.proofs.BagLaws.{size_of_same}
use Rattle.cube_values.proofs.OwedLaws.{AddsBag-SameHeld}
use Rattle.cube_values.proofs.counted.merge_each.Goals as goal

pub merge_pairs-requires-2 : goal.merge_pairs-requires-2
merge_pairs-requires-2 c =
    let same : SameHeld c.args.more.now c.in_ok-settled.settled.items = search rules in
    rw c.deref.ensures.value
    (omega (arith, c.requires, size_of_same c.args.more.now c.in_ok-settled.settled.items same))

pub returns : goal.returns
returns c =
    let same : SameHeld c.args.more.now c.in_ok-settled.settled.items = search rules in
    let merged = rw c.deref.ensures.value at c.merge_pairs-2.ensures in
    on_ok_weaker c.merge_pairs-2.result (AddsBag-SameHeld (bag_of c.args.values.now)
    (bag_of c.merge_pairs-2.new.values) c.args.more.now c.in_ok-settled.settled.items same) merged
