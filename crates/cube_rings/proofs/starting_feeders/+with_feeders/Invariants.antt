use Rattle.std.proofs.Common.{vec_len}
use Rattle.cube_rings.proofs.starting_feeders.+with_feeders.Given as goal

abbrev pub decreases-with_feeders : goal.decreases-with_feeders
decreases-with_feeders g l = vec_len l.feeders
