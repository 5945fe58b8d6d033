use Rattle.std.proofs.Common.{◌≤◌}
use Rattle.cube_values.proofs.repeats.is_frequent.Given as goal

abbrev pub invariant-loop-item : goal.invariant-loop-item
invariant-loop-item g l = l.count ≤ l.item-index
