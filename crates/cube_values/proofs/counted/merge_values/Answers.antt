use Rattle.std.proofs.Common.{arith, rules}
use Rattle.std.proofs.lemmas.Result.{on_ok_weaker}
use Rattle.cube_values.specs.Bag.{SameHeld}
use Rattle.cube_values.specs.Values.{bag_of}
use Rattle.cube_values.proofs.BagLaws.{size_of_same}
use Rattle.cube_values.proofs.GrownLaws.{AddsBag-of_copy}
use Rattle.cube_values.proofs.counted.merge_values.Goals as goal

pub append_values-requires-2 : goal.append_values-requires-2
append_values-requires-2 c =
    let same : SameHeld (bag_of c.args.more.now) (bag_of c.in-Some.copy) = search rules in
    rw (c.replace-old.ensures.value, c.replace-old.ensures.after)
    (omega (arith, c.requires, size_of_same (bag_of c.args.more.now) (bag_of c.in-Some.copy) same))

pub returns : goal.returns
returns c =
    let same : SameHeld (bag_of c.args.more.now) (bag_of c.in-Some.copy) = search rules in
    let added = rw (c.replace-old.ensures.value, c.replace-old.ensures.after) at c.append_values-2.ensures in
    on_ok_weaker c.append_values-2.result (AddsBag-of_copy (bag_of c.args.values.now) (bag_of c.args.more.now)
    (bag_of c.in-Some.copy) (bag_of c.append_values-2.new.values) same) added
