use Rattle.cube_core.specs.Life.{id_of}
use Rattle.cube_core.proofs.LifeLaws.{life_of-other, bytes_eq-other}
use Rattle.cube_laws.proofs.life.others_change_nothing.Goals as goal

pub returns : goal.returns
returns c id changes change differs = life_of-other id changes change (bytes_eq-other id (id_of change) differs)
