use Rattle.std.proofs.Common.{rules}
use Rattle.cube_values.specs.Bag.{Bag, SameHeld}
use Rattle.cube_values.specs.Values.{bag_of}
use Rattle.cube_values.proofs.GrownLaws.{SameHeld-from_equal}
use Rattle.cube_values.proofs.StatisticsLaws.{AreInOrder-SameHeld}
use Rattle.cube_values.proofs.counted.statistics.in_order.Goals.{
  in-One+in_ok-pairs-in-One,
  in-Few+in_ok-pairs-in-Few,
  in-Many+in_ok-pairs-in-Many,
}
use Rattle.cube_values.proofs.counted.statistics.in_order.Goals as goal

pub returns : goal.returns
returns c =
    let bag : Bag = bag_of c.args.values.now in
    let same : SameHeld bag c.match-values.pairs.items = elim c.match-values.branch [
      | in-One+in_ok-pairs-in-One w ↦ SameHeld-from_equal bag c.match-values.pairs.items (search rules)
      | in-Few+in_ok-pairs-in-Few w ↦ SameHeld-from_equal bag c.match-values.pairs.items (search rules)
      | in-Many+in_ok-pairs-in-Many w ↦ SameHeld-from_equal bag c.match-values.pairs.items (search rules)
    ] in
    AreInOrder-SameHeld bag c.match-values.pairs.items c.put_in_order.result.items same c.put_in_order.ensures
