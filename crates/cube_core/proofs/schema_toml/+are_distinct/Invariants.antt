use Rattle.std.proofs.Common.{◌+◌, ◌*◌, length}
use Rattle.cube_core.proofs.schema_toml.+are_distinct.Given as goal

abbrev pub decreases-are_distinct : goal.decreases-are_distinct
decreases-are_distinct l = length l.names.now + 2 * length l.others.now
