use Rattle.std.proofs.Common.{take, ◌≤◌}
use Rattle.cube_values.specs.Narrow.{once_each}
use Rattle.cube_values.specs.Statistics.{HasDifferent}
use Rattle.cube_values.proofs.paid.different_in_order.Given as goal

abbrev pub invariant-loop-place : goal.invariant-loop-place
invariant-loop-place l = HasDifferent (once_each (take l.place l.numbers)) l.count × (l.count ≤ l.place)
