use Rattle.cube_laws.proofs.FaultLaws.{schema_of-IsFirstFault, IsFirstFault-schema_of}
use Rattle.cube_laws.proofs.schema.told_fault_is_the_first.Goals as goal

pub returns : goal.returns
returns c = record { told = schema_of-IsFirstFault; first = IsFirstFault-schema_of }
