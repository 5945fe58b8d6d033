use Rattle.std.proofs.Common.{ℤ, List, pos, get_or, arith, rules}
use Rattle.std.proofs.lemmas.Int.{to_z-of_z}
use Rattle.cube_values.specs.Bag.{AddsTimes}
use Rattle.cube_values.specs.Narrow.{once_each}
use Rattle.cube_values.proofs.BagLaws.{size_of_same, adds_to_same}
use Rattle.cube_values.proofs.NarrowLaws.{IsSplit-room_once, IsSplit-more_once, IsSplit-SameHeld_once}
use Rattle.cube_values.proofs.short.Short.of_numbers.Goals as goal

pub add-requires-clause-fits : goal.add-requires-clause-fits
add-requires-clause-fits c = omega (
  arith,
  c.requires.fits,
  IsSplit-room_once c.args.numbers.now c.loop-number.number-index c.loop-number.short
      (pos 0) c.loop-number.invariant c.loop-number-test.true,
)

pub loop-number-preserved : goal.loop-number-preserved
loop-number-preserved c =
    let numbers : List ℤ = c.args.numbers.now in
    let added : AddsTimes c.loop-number.short c.add.new.self (get_or numbers c.loop-number.number-index (pos 0)) 1 =
    search (rules, to_z-of_z) in
    IsSplit-more_once numbers c.loop-number.number-index c.loop-number.short c.add.new.self
    (pos 0) c.loop-number.invariant c.loop-number-test.true added

pub add-requires-2-clause-fits : goal.add-requires-2-clause-fits
add-requires-2-clause-fits c =
    let numbers : List ℤ = c.args.numbers.now in
    let same = IsSplit-SameHeld_once numbers c.loop-number.number-index c.loop-number.short c.loop-number.invariant
    c.loop-number-test.false in
    omega (arith, c.requires.fits, size_of_same (once_each numbers) c.loop-number.short same)

pub returns : goal.returns
returns c =
    let numbers : List ℤ = c.args.numbers.now in
    let same = IsSplit-SameHeld_once numbers c.loop-number.number-index c.loop-number.short c.loop-number.invariant
    c.loop-number-test.false in
    let added : AddsTimes c.loop-number.short c.add-2.new.self c.args.more.0 c.args.more.1 = search rules in
    adds_to_same (once_each numbers) c.loop-number.short c.add-2.new.self c.args.more.0 c.args.more.1 same added
