use Rattle.std.proofs.Common.{ℤ, List, ◌≤◌, ◌<◌, length, arith}
use Rattle.cube_values.specs.Bag.{held_of}
use Rattle.cube_values.specs.Narrow.{once_each}
use Rattle.cube_values.proofs.NarrowLaws.{takes_last, size_of-once_each}
use Rattle.cube_values.proofs.counted.take_narrow.Goals as goal

pub returns-then-count-le1-clause-other : goal.returns-then-count-le1-clause-other
returns-then-count-le1-clause-other c =
    let numbers : List ℤ = c.numbers-count.result.now in
    let few : length numbers ≤ 1 = omega arith in
    let held : 0 < held_of (once_each numbers) c.args.value = rw c.numbers-count.ensures at c.requires.held in
    rw c.numbers-count.ensures (takes_last numbers c.none.result c.args.value few held c.none.ensures.held)

pub take-requires-clause-more : goal.take-requires-clause-more
take-requires-clause-more c =
    rw c.numbers-count.ensures (omega (arith, size_of-once_each c.numbers-count.result.now, c.if-count-le1.false))
