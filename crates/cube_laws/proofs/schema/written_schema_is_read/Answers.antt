use Rattle.cube_laws.proofs.WrittenLaws.{WritesSchema-schema_of}
use Rattle.cube_laws.proofs.schema.written_schema_is_read.Goals as goal

pub returns : goal.returns
returns c = WritesSchema-schema_of
