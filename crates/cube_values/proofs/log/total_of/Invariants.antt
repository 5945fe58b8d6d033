use Rattle.std.proofs.Common.{◌≡◌, ◌+◌, drop}
use Rattle.cube_values.specs.Bag.{size_of}
use Rattle.cube_values.proofs.log.total_of.Given as goal

abbrev pub invariant-loop-pair : goal.invariant-loop-pair
invariant-loop-pair l = l.total + size_of (drop l.pair-index l.pairs) ≡ size_of l.pairs
