use Rattle.std.proofs.Common.{◌≡◌, length}
use Rattle.cube_calls.proofs.cells.obey_all.Given as goal

abbrev pub invariant-loop-call : goal.invariant-loop-call
invariant-loop-call l = length l.cell.bags ≡ length l.schema.measures
