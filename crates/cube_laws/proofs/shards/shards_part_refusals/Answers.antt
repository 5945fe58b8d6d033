use Rattle.cube_laws.proofs.ShardLaws.{refusals_of-part}
use Rattle.cube_laws.proofs.shards.shards_part_refusals.Goals as goal

pub returns : goal.returns
returns c = λ s count place records whole. refusals_of-part s count place whole records
