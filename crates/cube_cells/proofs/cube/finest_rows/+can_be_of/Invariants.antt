use Rattle.std.proofs.Common.{length}
use Rattle.cube_cells.proofs.cube.finest_rows.+can_be_of.Given as goal

abbrev pub decreases-can_be_of : goal.decreases-can_be_of
decreases-can_be_of l = length l.wants.now
