use Rattle.std.proofs.Common.{arith, rules}
use Rattle.std.proofs.lemmas.Result.{IfOk-weaker}
use Rattle.cube_values.specs.Bag.{Bag, SameHeld, AddsTimes}
use Rattle.cube_values.specs.Narrow.{once_each}
use Rattle.cube_values.specs.Values.{bag_of}
use Rattle.cube_values.proofs.BagLaws.{size_of_same, adds_to_same}
use Rattle.cube_values.proofs.counted.counted_each.Goals as goal

pub table_with-requires-clause-fits : goal.table_with-requires-clause-fits
table_with-requires-clause-fits c =
    let table : Bag = c.in_ok-of_numbers.field-0 in
    let same : SameHeld (once_each c.args.numbers.now) table = search rules in
    omega (arith, c.requires.fits, size_of_same (once_each c.args.numbers.now) table same)

pub returns-then-numbers_repeat : goal.returns-then-numbers_repeat
returns-then-numbers_repeat c =
    let old : Bag = once_each c.args.numbers.now in
    let table : Bag = c.in_ok-of_numbers.field-0 in
    let same : SameHeld old table = search rules in
    IfOk-weaker c.table_with.result (λ values. AddsTimes table (bag_of values) c.args.more.0 c.args.more.1)
    (λ values. AddsTimes old (bag_of values) c.args.more.0 c.args.more.1)
    (λ values adds. adds_to_same old table (bag_of values) c.args.more.0 c.args.more.1 same adds) c.table_with.ensures
