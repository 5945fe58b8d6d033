use Rattle.std.proofs.Common.{◌+◌, ◌*◌}
use Rattle.cube_build.proofs.sharded.+pieces.Given as goal

abbrev pub decreases-settle_shards : goal.decreases-settle_shards
decreases-settle_shards g l = 4 * l.pieces + 3

abbrev pub decreases-settle_both : goal.decreases-settle_both
decreases-settle_both g l = 4 * l.pieces + 2

abbrev pub decreases-settle_both-back : goal.decreases-settle_both-back
decreases-settle_both-back g l = 4 * l.pieces + 1
