use Rattle.std.proofs.Common.{◌<◌, ◌≤◌, length}
use Rattle.cube_merge.proofs.front.row_for_bound.Given as goal

abbrev pub invariant-loop-place : goal.invariant-loop-place
invariant-loop-place g l = record { inside : l.least < length l.inputs; counted : l.rows ≤ l.place }
