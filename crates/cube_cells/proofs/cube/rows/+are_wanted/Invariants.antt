use Rattle.std.proofs.Common.{length}
use Rattle.cube_cells.proofs.cube.rows.+are_wanted.Given as goal

abbrev pub decreases-are_wanted : goal.decreases-are_wanted
decreases-are_wanted l = length l.wants.now
