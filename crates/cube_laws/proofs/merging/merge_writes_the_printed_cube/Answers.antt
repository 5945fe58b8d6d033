use Rattle.cube_laws.proofs.MergedTextLaws.{IsMergeOf-PutsPrinted, IsMergeOf-PutsPrinted_partial}
use Rattle.cube_laws.proofs.merging.merge_writes_the_printed_cube.Goals as goal

pub returns : goal.returns
returns c = record { whole = IsMergeOf-PutsPrinted; partial = IsMergeOf-PutsPrinted_partial }
