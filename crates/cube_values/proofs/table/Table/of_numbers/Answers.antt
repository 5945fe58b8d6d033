use Rattle.std.proofs.Common.{ℤ, List, pos, get_or, arith, rules}
use Rattle.std.proofs.lemmas.Int.{to_z-of_z}
use Rattle.cube_values.specs.Bag.{AddsTimes}
use Rattle.cube_values.proofs.NarrowLaws.{IsSplit-room_once, IsSplit-more_once, IsSplit-SameHeld_once}
use Rattle.cube_values.proofs.table.Table.of_numbers.Goals as goal

pub add-requires-clause-fits : goal.add-requires-clause-fits
add-requires-clause-fits c = omega (
  arith,
  c.requires,
  IsSplit-room_once c.args.numbers.now c.loop-number.number-index c.loop-number.table
      (pos 0) c.loop-number.invariant c.loop-number-test.true,
)

pub loop-number-preserved : goal.loop-number-preserved
loop-number-preserved c =
    let numbers : List ℤ = c.args.numbers.now in
    let added : AddsTimes c.loop-number.table c.add.new.self (get_or numbers c.loop-number.number-index (pos 0)) 1 =
    search (rules, to_z-of_z) in
    IsSplit-more_once numbers c.loop-number.number-index c.loop-number.table c.add.new.self
    (pos 0) c.loop-number.invariant c.loop-number-test.true added

pub returns : goal.returns
returns c = IsSplit-SameHeld_once c.args.numbers.now c.loop-number.number-index c.loop-number.table
    c.loop-number.invariant c.loop-number-test.false
