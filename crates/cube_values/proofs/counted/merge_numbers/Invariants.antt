use Rattle.std.proofs.Common.{drop}
use Rattle.cube_values.specs.Narrow.{once_each}
use Rattle.cube_values.specs.Values.{bag_of}
use Rattle.cube_values.proofs.BagLaws.{IsMerging}
use Rattle.cube_values.proofs.counted.merge_numbers.Given as goal

abbrev pub invariant-loop-number : goal.invariant-loop-number
invariant-loop-number l = IsMerging (bag_of l.initial.values) (once_each l.numbers)
    (drop l.number-index (once_each l.numbers)) (bag_of l.values)
