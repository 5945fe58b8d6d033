use Rattle.std.proofs.Common.{◌≡◌, ◌++◌, map}
use Rattle.cube_core.specs.TextsDocument.{text_column}
use Rattle.cube_core.proofs.schema_toml.with_text_columns.Given as goal

-- the columns, and those of the names so far
abbrev pub invariant-loop-name : goal.invariant-loop-name
invariant-loop-name l = l.all.items ≡ l.fn.columns.items ++ map text_column l.yielded
