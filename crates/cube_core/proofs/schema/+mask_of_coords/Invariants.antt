use Rattle.std.proofs.Common.{length}
use Rattle.cube_core.proofs.schema.+mask_of_coords.Given as goal

abbrev pub decreases-mask_of_coords : goal.decreases-mask_of_coords
decreases-mask_of_coords l = length l.coords.now
