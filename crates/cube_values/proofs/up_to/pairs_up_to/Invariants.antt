use Rattle.std.proofs.Common.{◌≡◌, ◌+◌, drop}
use Rattle.cube_values.specs.Statistics.{size_up_to}
use Rattle.cube_values.proofs.up_to.pairs_up_to.Given as goal

abbrev pub invariant-loop-pair : goal.invariant-loop-pair
invariant-loop-pair l = l.count + size_up_to (drop l.pair-index l.pairs) l.value ≡ size_up_to l.pairs l.value
