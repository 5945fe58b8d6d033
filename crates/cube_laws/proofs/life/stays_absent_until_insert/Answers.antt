use Rattle.cube_laws.proofs.LifeLaws.{life_of-inserts}
use Rattle.cube_laws.proofs.life.stays_absent_until_insert.Goals as goal

pub returns : goal.returns
returns c id changes later absent uninserted = life_of-inserts id later changes absent uninserted
