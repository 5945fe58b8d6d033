use Rattle.std.proofs.Common.{vec_len}
use Rattle.cube_rings.proofs.starting_builders.+with_builders.Given as goal

abbrev pub decreases-with_builders : goal.decreases-with_builders
decreases-with_builders g l = vec_len l.builders
