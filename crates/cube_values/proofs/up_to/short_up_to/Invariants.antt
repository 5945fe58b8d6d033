use Rattle.std.proofs.Common.{◌≡◌, ◌≤◌, ◌+◌, drop}
use Rattle.cube_values.specs.Narrow.{once_each}
use Rattle.cube_values.specs.Statistics.{size_up_to}
use Rattle.cube_values.proofs.up_to.short_up_to.Given as goal

abbrev pub invariant-loop-number : goal.invariant-loop-number
invariant-loop-number l = (l.count ≤ l.number-index)
    × (l.count + size_up_to (once_each (drop l.number-index l.numbers)) l.value
    ≡ size_up_to (once_each l.numbers) l.value)
