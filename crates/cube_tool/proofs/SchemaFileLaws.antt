-- What is answered to a schema file that is refused.
use Rattle.std.proofs.Common.{◌≤◌, ℕ, List, length, Err}
use Rattle.cube_core.specs.SchemaDocument.{AnswersBytes}
use Rattle.cube_core.specs.declared.schema_fault.SchemaFault.{SchemaFault}
use Rattle.cube_core.specs.declared.schema_fault.SchemaFault.TheVariants.{Memory, Toml, UnknownKey, Dimensions}
use Rattle.cube_core.specs.declared.schema_fault.SchemaFault.TheVariants.{Measures, Name, Aggregates, MaxRecords}
use Rattle.cube_core.specs.declared.schema_fault.SchemaFault.TheVariants.{Grouping, Version, Columns, Decimals, Texts}
use Rattle.cube_tool.specs.Command.{AnswersFile, schema_limit}
use Rattle.cube_tool.specs.declared.command.failure.Failure.TheVariants.{Schema}

-- a fault that is told of the bytes is told of their file
pub schema_fault_answered : (bytes : List ℕ) (fault : SchemaFault) → length bytes ≤ schema_limit
    → AnswersBytes bytes (Err fault) → AnswersFile bytes (Err (Schema fault))
schema_fault_answered bytes Memory few answers = tt
schema_fault_answered bytes Toml few answers = (few, answers)
schema_fault_answered bytes UnknownKey few answers = (few, answers)
schema_fault_answered bytes Dimensions few answers = (few, answers)
schema_fault_answered bytes Measures few answers = (few, answers)
schema_fault_answered bytes Name few answers = (few, answers)
schema_fault_answered bytes Aggregates few answers = (few, answers)
schema_fault_answered bytes MaxRecords few answers = (few, answers)
schema_fault_answered bytes Grouping few answers = (few, answers)
schema_fault_answered bytes Version few answers = (few, answers)
schema_fault_answered bytes Columns few answers = (few, answers)
schema_fault_answered bytes Decimals few answers = (few, answers)
schema_fault_answered bytes Texts few answers = (few, answers)
