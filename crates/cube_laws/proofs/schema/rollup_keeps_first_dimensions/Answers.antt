use Rattle.cube_laws.proofs.GroupingLaws.{grouping_sets-first_sets}
use Rattle.cube_laws.proofs.schema.rollup_keeps_first_dimensions.Goals as goal

pub returns : goal.returns
returns c = grouping_sets-first_sets
