use Rattle.std.proofs.Common.{◌-◌}
use Rattle.cube_cells.proofs.cube.bottom_up.+walk_one.Given as goal

abbrev pub decreases-walk_one : goal.decreases-walk_one
decreases-walk_one g l = l.dimensions - l.from
