use Rattle.std.proofs.Common.{◌≡◌}
use Rattle.cube_calls.proofs.cubes.obey_all.Given as goal

abbrev pub invariant-loop-call : goal.invariant-loop-call
invariant-loop-call l = l.cube.schema ≡ l.schema
