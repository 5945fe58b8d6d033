use Rattle.cube_laws.proofs.MergedTextLaws.{IsMergedText-unique}
use Rattle.cube_laws.proofs.merging.merged_text_ignores_order.Goals as goal

pub returns : goal.returns
returns c = IsMergedText-unique
