use Rattle.std.proofs.Common.{ℤ, List, pos, get_or, arith, rules}
use Rattle.std.proofs.lemmas.Int.{to_z-of_z}
use Rattle.cube_values.specs.Bag.{AddsTimes}
use Rattle.cube_values.specs.Values.{bag_of}
use Rattle.cube_values.proofs.NarrowLaws.{IsMerging-room_once, IsMerging-more_once, IsMerging-AddsBag_once}
use Rattle.cube_values.proofs.counted.merge_numbers.Goals as goal

pub add_value-requires-clause-fits : goal.add_value-requires-clause-fits
add_value-requires-clause-fits c = omega (
  arith,
  c.requires,
  IsMerging-room_once (bag_of c.args.values.now) c.args.numbers.now
      (bag_of c.loop-number.values) c.loop-number.number-index (pos 0) c.loop-number-test.true c.loop-number.invariant,
)

pub loop-number-preserved : goal.loop-number-preserved
loop-number-preserved c =
    let numbers : List ℤ = c.args.numbers.now in
    let added : AddsTimes (bag_of c.loop-number.values) (bag_of c.add_value.new.values)
    (get_or numbers c.loop-number.number-index (pos 0)) 1 = search (rules, to_z-of_z) in
    IsMerging-more_once (bag_of c.args.values.now) numbers (bag_of c.loop-number.values) (bag_of c.add_value.new.values)
    c.loop-number.number-index (pos 0) c.loop-number-test.true c.loop-number.invariant added

pub returns : goal.returns
returns c = IsMerging-AddsBag_once (bag_of c.args.values.now) c.args.numbers.now
    (bag_of c.loop-number.values) c.loop-number.number-index c.loop-number-test.false c.loop-number.invariant
