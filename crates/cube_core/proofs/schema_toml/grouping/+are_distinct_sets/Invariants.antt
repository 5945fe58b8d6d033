use Rattle.std.proofs.Common.{length}
use Rattle.cube_core.proofs.schema_toml.grouping.+are_distinct_sets.Given as goal

abbrev pub decreases-are_distinct_sets : goal.decreases-are_distinct_sets
decreases-are_distinct_sets l = length l.sets.now
