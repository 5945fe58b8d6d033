use Rattle.cube_laws.proofs.GroupingLaws.{grouping_sets-all_sets, AreRows-all_sets}
use Rattle.cube_laws.proofs.schema.no_grouping_is_cube.Goals as goal

pub returns : goal.returns
returns c = record { sets = grouping_sets-all_sets; rows = AreRows-all_sets }
