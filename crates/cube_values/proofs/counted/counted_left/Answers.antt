use Rattle.std.proofs.Common.{arith}
use Rattle.std.proofs.lemmas.Result.{IfOk-weaker}
use Rattle.cube_values.specs.Bag.{Bag, AddsTimes}
use Rattle.cube_values.specs.Narrow.{once_each}
use Rattle.cube_values.specs.Values.{bag_of}
use Rattle.cube_values.proofs.BagLaws.{size_of_same, adds_to_same}
use Rattle.cube_values.proofs.counted.counted_left.Goals as goal

pub counted_each-requires-clause-fits : goal.counted_each-requires-clause-fits
counted_each-requires-clause-fits c =
    let listed : Bag = once_each c.in_ok-numbers.numbers.items in
    rw c.deref.ensures.value
    (omega (arith, c.requires.fits, size_of_same c.args.ordered.now listed c.in_ok-numbers.ensures.same))

pub returns : goal.returns
returns c =
    let listed : Bag = once_each c.in_ok-numbers.numbers.items in
    IfOk-weaker c.counted_each.result (λ values. AddsTimes listed (bag_of values) c.args.more.0 c.args.more.1)
    (λ values. AddsTimes c.args.ordered.now (bag_of values) c.args.more.0 c.args.more.1)
    (λ values adds. adds_to_same c.args.ordered.now listed (bag_of values) c.args.more.0 c.args.more.1
    c.in_ok-numbers.ensures.same adds) (rw c.deref.ensures.value at c.counted_each.ensures)
