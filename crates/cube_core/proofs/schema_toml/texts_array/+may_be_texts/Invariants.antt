use Rattle.std.proofs.Common.{length}
use Rattle.cube_core.proofs.schema_toml.texts_array.+may_be_texts.Given as goal

abbrev pub decreases-may_be_texts : goal.decreases-may_be_texts
decreases-may_be_texts l = length l.names.now
