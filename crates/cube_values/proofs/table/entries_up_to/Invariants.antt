use Rattle.std.proofs.Common.{◌≡◌, ◌+◌}
use Rattle.cube_values.specs.Statistics.{size_up_to}
use Rattle.cube_values.proofs.table.entries_up_to.Given as goal

abbrev pub invariant-loop-number : goal.invariant-loop-number
invariant-loop-number l =
    (goal.iterator-loop-number).can_next l.number-iterator
    × (goal.iterator-loop-number).is_finite l.number-iterator
    × (l.total + size_up_to l.number-iterator l.value ≡ size_up_to l.counts.entries l.value)
