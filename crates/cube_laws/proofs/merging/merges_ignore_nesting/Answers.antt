use Rattle.cube_laws.proofs.MergeOrderLaws.{IsMergeTree-unique}
use Rattle.cube_laws.proofs.merging.merges_ignore_nesting.Goals as goal

pub returns : goal.returns
returns c = IsMergeTree-unique
