use Rattle.std.proofs.Common.{arith, rules}
use Rattle.cube_values.specs.Bag.{AddsBag}
use Rattle.cube_values.specs.Values.{bag_of}
use Rattle.cube_values.proofs.BagLaws.{size_of-bag}
use Rattle.cube_values.proofs.counted.Counted.merge.Goals as goal

pub invariant_of-self-2 : goal.invariant_of-self-2
invariant_of-self-2 c =
    let added : AddsBag (bag_of c.self.inside.values) (bag_of c.merge_values.new.values) (bag_of c.more.inside.values) =
    search rules in
    omega (
      arith,
      c.self.invariant,
      c.more.invariant,
      size_of-bag (bag_of c.self.inside.values) (bag_of c.merge_values.new.values) (bag_of c.more.inside.values) added,
    )
