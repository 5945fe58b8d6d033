use Rattle.std.proofs.Common.{◌≡◌, ◌++◌, map}
use Rattle.csv.specs.Records.{fields_of}
use Rattle.cube_console.specs.Json.{cells_from}
use Rattle.cube_console.specs.JsonColumns.{seen}
use Rattle.cube_console.proofs.JsonLaws.{to_come}
use Rattle.cube_console.proofs.views.json.push_line.Given as goal

abbrev pub invariant-loop-place : goal.invariant-loop-place
invariant-loop-place l =
    l.text.items ++ to_come l.place l.columns (fields_of l.row)
    ≡ l.initial.text.items ++ cells_from 0 (map seen l.columns) (fields_of l.row)
