use Rattle.cube_laws.proofs.SourceGroupLaws.{IsMergedText-IsPrintedOf, IsMergedText-IsPrintedOf_partial}
use Rattle.cube_laws.proofs.merging.groups_of_sources_add_up.Goals as goal

pub returns : goal.returns
returns c = record { whole = IsMergedText-IsPrintedOf; partial = IsMergedText-IsPrintedOf_partial }
