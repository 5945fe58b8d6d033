use Rattle.std.proofs.Common.{drop}
use Rattle.cube_values.specs.Values.{bag_of}
use Rattle.cube_values.proofs.BagLaws.{IsMerging}
use Rattle.cube_values.proofs.counted.merge_pairs.Given as goal

abbrev pub invariant-loop-pair : goal.invariant-loop-pair
invariant-loop-pair l = IsMerging (bag_of l.initial.values) l.pairs (drop l.pair-index l.pairs) (bag_of l.values)
