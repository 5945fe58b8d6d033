use Rattle.cube_laws.proofs.SourceGroupLaws.{IsMergeOf-PutsPrintedOf, IsMergeOf-PutsPrintedOf_partial}
use Rattle.cube_laws.proofs.merging.merge_writes_the_cube_of_all_sources.Goals as goal

pub returns : goal.returns
returns c = record { whole = IsMergeOf-PutsPrintedOf; partial = IsMergeOf-PutsPrintedOf_partial }
