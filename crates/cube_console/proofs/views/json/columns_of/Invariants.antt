use Rattle.std.proofs.Common.{◌≡◌, map}
use Rattle.std.specs.List.{range_with_len}
use Rattle.csv.specs.Records.{fields_of}
use Rattle.cube_console.specs.Json.{column_of}
use Rattle.cube_console.specs.JsonColumns.{seen}
use Rattle.cube_console.proofs.views.json.columns_of.Given as goal

abbrev pub invariant-loop-place : goal.invariant-loop-place
invariant-loop-place l =
    map seen l.columns.items ≡ map (column_of l.dimensions (fields_of l.header)) (range_with_len 0 l.place)
