use Rattle.std.proofs.Common.{length}
use Rattle.cube_feed.proofs.condition.+longest_before.Given as goal

abbrev pub decreases-longest_before : goal.decreases-longest_before
decreases-longest_before l = length l.names.now
