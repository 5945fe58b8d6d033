use Rattle.cube_values.proofs.StatisticsLaws.{IsWalkedTo}
use Rattle.cube_values.proofs.table.entry_at.Given as goal

abbrev pub invariant-loop-number : goal.invariant-loop-number
invariant-loop-number l =
    (goal.iterator-loop-number).can_next l.number-iterator
    × (goal.iterator-loop-number).is_finite l.number-iterator
    × IsWalkedTo l.counts.entries l.place l.number-iterator l.left
