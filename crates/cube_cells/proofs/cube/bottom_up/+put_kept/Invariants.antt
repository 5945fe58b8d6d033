use Rattle.std.proofs.Common.{◌-◌}
use Rattle.cube_cells.proofs.cube.bottom_up.+put_kept.Given as goal

abbrev pub decreases-put_kept : goal.decreases-put_kept
decreases-put_kept l = l.dimensions - l.from
