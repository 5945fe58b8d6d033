use Rattle.std.proofs.Common.{◌≡◌, ◌≤◌, ◌+◌, ◌*◌, ◌^◌, drop}
use Rattle.cube_values.specs.Narrow.{once_each}
use Rattle.cube_values.specs.Statistics.{squares_held}
use Rattle.cube_values.proofs.squares.narrow_squares.Given as goal

abbrev pub invariant-loop-number : goal.invariant-loop-number
invariant-loop-number l = (l.sum ≤ 2 ^ 62 * l.number-index)
    × (l.sum + squares_held (once_each (drop l.number-index l.numbers)) ≡ squares_held (once_each l.numbers))
