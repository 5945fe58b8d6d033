use Rattle.std.proofs.Common.{length}
use Rattle.cube_cells.proofs.cell.+hold_values.Given as goal

abbrev pub decreases-hold_values : goal.decreases-hold_values
decreases-hold_values l = length l.measures.now
