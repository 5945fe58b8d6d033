use Rattle.std.proofs.Common.{arith, rules}
use Rattle.std.proofs.lemmas.Result.{IfOk-weaker}
use Rattle.cube_values.specs.Bag.{SameHeld}
use Rattle.cube_values.proofs.BagLaws.{size_of_same}
use Rattle.cube_values.proofs.OwedLaws.{SameHeld-both}
use Rattle.cube_values.proofs.counted.table_of_each.Goals as goal

pub of_pairs-requires-2 : goal.of_pairs-requires-2
of_pairs-requires-2 c =
    let same : SameHeld c.args.log.now c.in_ok-settled.settled.items = search rules in
    rw c.deref.ensures.value (omega (arith, c.requires, size_of_same c.args.log.now c.in_ok-settled.settled.items same))

pub returns : goal.returns
returns c =
    let same : SameHeld c.args.log.now c.in_ok-settled.settled.items = search rules in
    let table = rw c.deref.ensures.value at c.of_pairs-2.ensures in
    IfOk-weaker c.of_pairs-2.result (SameHeld c.in_ok-settled.settled.items) (SameHeld c.args.log.now)
    (λ made held. SameHeld-both c.args.log.now c.in_ok-settled.settled.items made same held) table
