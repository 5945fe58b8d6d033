use Rattle.cube_laws.proofs.LifeLaws.{life_of-Update}
use Rattle.cube_laws.proofs.life.update_is_delete_and_insert.Goals as goal

pub returns : goal.returns
returns c id changes fact other present = life_of-Update id changes fact other present
