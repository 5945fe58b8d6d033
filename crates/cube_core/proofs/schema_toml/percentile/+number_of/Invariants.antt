use Rattle.std.proofs.Common.{length}
use Rattle.cube_core.proofs.schema_toml.percentile.+number_of.Given as goal

abbrev pub decreases-number_of : goal.decreases-number_of
decreases-number_of l = length l.text.now
