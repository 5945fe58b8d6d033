use Rattle.cube_laws.proofs.LifeLaws.{life_of-Delete}
use Rattle.cube_laws.proofs.life.is_absent_after_delete.Goals as goal

pub returns : goal.returns
returns c id changes = life_of-Delete id changes
