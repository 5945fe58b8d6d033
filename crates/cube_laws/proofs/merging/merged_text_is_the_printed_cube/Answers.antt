use Rattle.cube_laws.proofs.MergedTextLaws.{IsMergedText-IsPrinted, IsMergedText-partial}
use Rattle.cube_laws.proofs.merging.merged_text_is_the_printed_cube.Goals as goal

pub returns : goal.returns
returns c = record { whole = IsMergedText-IsPrinted; partial = IsMergedText-partial }
