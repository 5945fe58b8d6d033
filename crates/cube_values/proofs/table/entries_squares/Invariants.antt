use Rattle.cube_values.proofs.StatisticsLaws.{IsSquaredTo}
use Rattle.cube_values.proofs.table.entries_squares.Given as goal

abbrev pub invariant-loop-number : goal.invariant-loop-number
invariant-loop-number l =
    (goal.iterator-loop-number).can_next l.number-iterator
    × (goal.iterator-loop-number).is_finite l.number-iterator
    × IsSquaredTo l.counts.entries l.number-iterator l.sum
