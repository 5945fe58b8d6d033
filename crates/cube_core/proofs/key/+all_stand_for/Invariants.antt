use Rattle.std.proofs.Common.{length}
use Rattle.cube_core.proofs.key.+all_stand_for.Given as goal

abbrev pub decreases-all_stand_for : goal.decreases-all_stand_for
decreases-all_stand_for l = length l.coords.now
