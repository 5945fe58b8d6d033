use Rattle.cube_laws.proofs.ShardTextLaws.{IsMergeOf-shards, IsMergeOf-shards_partial}
use Rattle.cube_laws.proofs.shards.merge_writes_the_cube_of_all_shards.Goals as goal

pub returns : goal.returns
returns c = record { whole = IsMergeOf-shards; partial = IsMergeOf-shards_partial }
