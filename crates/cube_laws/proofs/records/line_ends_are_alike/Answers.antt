use Rattle.cube_laws.proofs.RecordLaws.{records-IsEnded, records-IsUnended}
use Rattle.cube_laws.proofs.records.line_ends_are_alike.Goals as goal

pub returns : goal.returns
returns c = record { ended = records-IsEnded; unended = records-IsUnended }
