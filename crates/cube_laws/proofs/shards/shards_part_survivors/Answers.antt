use Rattle.cube_laws.proofs.ShardLaws.{AreSurviving-parts}
use Rattle.cube_laws.proofs.shards.shards_part_survivors.Goals as goal

pub returns : goal.returns
returns c = AreSurviving-parts
