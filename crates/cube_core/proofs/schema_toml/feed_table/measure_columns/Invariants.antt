use Rattle.std.proofs.Common.{◌≡◌, ◌++◌, drop, is_some}
use Rattle.std.specs.List.{filter_map, list_all}
use Rattle.toml.specs.View.{table_view}
use Rattle.cube_core.specs.FeedDocument.{measure_column}
use Rattle.cube_core.proofs.schema_toml.feed_table.measure_columns.Given as goal

-- the columns so far and those to come are those of all names, and all are right where those to come are
abbrev pub invariant-loop-name : goal.invariant-loop-name
invariant-loop-name l = record {
  found : l.read.items ++ filter_map (measure_column (table_view l.columns)) (drop l.name-index l.names)
      ≡ filter_map (measure_column (table_view l.columns)) l.names;
  right : list_all (λ name. is_some (measure_column (table_view l.columns) name)) (drop l.name-index l.names)
      ≡ list_all (λ name. is_some (measure_column (table_view l.columns) name)) l.names;
}
