use Rattle.cube_laws.proofs.LifeLaws.{life_of-past}
use Rattle.cube_laws.proofs.life.nothing_from_before_a_delete_is_seen.Goals as goal

pub returns : goal.returns
returns c id before after = life_of-past id before after
