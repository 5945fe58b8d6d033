use Rattle.std.proofs.Common.{◌≡◌, ◌++◌}
use Rattle.cube_values.proofs.table.pairs_of.Given as goal

abbrev pub invariant-loop-number : goal.invariant-loop-number
invariant-loop-number l =
    (goal.iterator-loop-number).can_next l.number-iterator
    × (goal.iterator-loop-number).is_finite l.number-iterator
    × (l.pairs.items ++ l.number-iterator ≡ l.counts.entries)
