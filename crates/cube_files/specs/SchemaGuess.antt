-- What is promised of a schema that is made of a file (this project's choice).
use Rattle.std.specs.Prelude.{ℕ, List, Ok}
use Rattle.cube_core.specs.Layout.{Layout}
use Rattle.cube_core.specs.SchemaDocument.{AnswersBytes}

-- bytes are the text of a schema: the reader of schemas may answer a schema to them
abbrev pub IsSchemaText : List ℕ → Type 0
IsSchemaText bytes = (layout : Layout) × AnswersBytes bytes (Ok layout)
