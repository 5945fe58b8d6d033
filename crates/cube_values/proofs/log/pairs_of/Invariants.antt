use Rattle.std.proofs.Common.{◌≡◌, take}
use Rattle.cube_values.specs.Narrow.{once_each}
use Rattle.cube_values.proofs.log.pairs_of.Given as goal

abbrev pub invariant-loop-number : goal.invariant-loop-number
invariant-loop-number l = l.pairs.items ≡ once_each (take l.number-index l.numbers)
