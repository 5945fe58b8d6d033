use Rattle.cube_laws.proofs.LifeLaws.{life_of-keeping}
use Rattle.cube_laws.proofs.life.amendment_that_keeps_all_changes_nothing.Goals as goal

pub returns : goal.returns
returns c id changes fact present = life_of-keeping id changes fact present
