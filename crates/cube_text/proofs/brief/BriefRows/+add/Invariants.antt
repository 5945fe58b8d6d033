use Rattle.std.proofs.Common.{length}
use Rattle.cube_text.proofs.brief.BriefRows.+add.Given as goal

abbrev pub decreases-add : goal.decreases-add
decreases-add l = length l.keys.now
