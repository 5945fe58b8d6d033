-- A column of the code as the definitions have it.
use Rattle.std.specs.Prelude.{ℕ, List}
use Rattle.cube_console.specs.declared.views.json.Column.{Column}
use Rattle.cube_console.specs.declared.views.json.Value.{Value}

-- what stands before a column's values, and how they are written
abbrev pub seen : Column → List ℕ × Value
seen column = (column.before.items, column.value)
