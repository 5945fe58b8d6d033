use Rattle.cube_laws.proofs.WritableLaws.{IsSchema-WritesSchema}
use Rattle.cube_laws.proofs.schema.each_schema_can_be_written.Goals as goal

pub returns : goal.returns
returns c = IsSchema-WritesSchema
