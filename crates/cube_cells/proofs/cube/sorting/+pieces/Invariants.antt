use Rattle.std.proofs.Common.{◌+◌, ◌*◌}
use Rattle.cube_cells.proofs.cube.sorting.+pieces.Given as goal

abbrev pub decreases-sort_pieces : goal.decreases-sort_pieces
decreases-sort_pieces g l = 4 * l.pieces + 3

abbrev pub decreases-sort_both : goal.decreases-sort_both
decreases-sort_both g l = 4 * l.pieces + 2

abbrev pub decreases-sort_both-front : goal.decreases-sort_both-front
decreases-sort_both-front g l = 4 * l.pieces + 1

abbrev pub decreases-sort_both-back : goal.decreases-sort_both-back
decreases-sort_both-back g l = 4 * l.pieces + 1
