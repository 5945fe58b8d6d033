use Rattle.std.proofs.Common.{length}
use Rattle.cube_core.proofs.schema_toml.grouping.+mask_of_names.Given as goal

abbrev pub decreases-mask_of_names : goal.decreases-mask_of_names
decreases-mask_of_names l = length l.dimensions.now
