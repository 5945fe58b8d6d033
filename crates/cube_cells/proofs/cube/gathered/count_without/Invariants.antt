use Rattle.std.proofs.Common.{◌≤◌}
use Rattle.cube_cells.proofs.cube.gathered.count_without.Given as goal

abbrev pub invariant-loop-each : goal.invariant-loop-each
invariant-loop-each g l = l.number ≤ l.each-index
