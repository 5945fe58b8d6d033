use Rattle.cube_laws.proofs.ShardTextLaws.{IsMergedText-shards, IsMergedText-shards_partial}
use Rattle.cube_laws.proofs.shards.shards_of_sources_add_up.Goals as goal

pub returns : goal.returns
returns c = record { whole = IsMergedText-shards; partial = IsMergedText-shards_partial }
