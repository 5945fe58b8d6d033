use Rattle.std.proofs.Common.{◌≡◌, ◌+◌, drop}
use Rattle.cube_values.specs.Bag.{size_of}
use Rattle.cube_values.proofs.held.count_of.Given as goal

abbrev pub invariant-loop-pair : goal.invariant-loop-pair
invariant-loop-pair l = l.count + size_of (drop l.pair-index l.held) ≡ size_of l.held
