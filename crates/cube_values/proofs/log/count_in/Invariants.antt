use Rattle.std.proofs.Common.{◌≡◌, ◌≤◌, ◌+◌, drop}
use Rattle.cube_values.specs.Narrow.{times_in}
use Rattle.cube_values.proofs.log.count_in.Given as goal

abbrev pub invariant-loop-number : goal.invariant-loop-number
invariant-loop-number l = (l.count ≤ l.number-index)
    × (l.count + times_in (drop l.number-index l.numbers) l.value ≡ times_in l.numbers l.value)
