use Rattle.std.proofs.Common.{◌≡◌, ◌+◌, drop}
use Rattle.cube_values.specs.Bag.{held_of}
use Rattle.cube_values.proofs.log.counts_more.Given as goal

abbrev pub invariant-loop-pair : goal.invariant-loop-pair
invariant-loop-pair l = l.left + held_of l.pairs l.value ≡ l.times + held_of (drop l.pair-index l.pairs) l.value
