use Rattle.cube_laws.proofs.LifeLaws.{life_of-Remove}
use Rattle.cube_laws.proofs.life.is_absent_after_removal.Goals as goal

pub returns : goal.returns
returns c id changes = life_of-Remove id changes
