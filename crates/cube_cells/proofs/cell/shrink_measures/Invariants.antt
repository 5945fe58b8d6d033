use Rattle.std.proofs.Common.{◌≡◌}
use Rattle.cube_cells.proofs.cell.shrink_measures.Given as goal

abbrev pub invariant-loop-measure : goal.invariant-loop-measure
invariant-loop-measure g l = l.measures ≡ l.initial.measures
