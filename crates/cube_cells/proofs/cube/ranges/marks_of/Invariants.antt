use Rattle.std.proofs.Common.{◌-◌, length}
use Rattle.cube_cells.proofs.cube.ranges.marks_of.Given as goal

abbrev pub decreases-loop-place : goal.decreases-loop-place
decreases-loop-place g l = length l.items - l.place
