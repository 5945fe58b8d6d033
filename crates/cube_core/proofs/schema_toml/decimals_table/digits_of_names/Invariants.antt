use Rattle.std.proofs.Common.{◌≡◌, ◌++◌, drop, is_some}
use Rattle.std.specs.List.{filter_map, list_all}
use Rattle.toml.specs.View.{table_view}
use Rattle.cube_core.specs.DecimalsDocument.{digits_of_name}
use Rattle.cube_core.proofs.schema_toml.decimals_table.digits_of_names.Given as goal

-- the digits so far and those to come are those of all names, and all are right where those to come are
abbrev pub invariant-loop-name : goal.invariant-loop-name
invariant-loop-name l = record {
  found : l.read.items ++ filter_map (digits_of_name (table_view l.decimals)) (drop l.name-index l.names)
      ≡ filter_map (digits_of_name (table_view l.decimals)) l.names;
  right : list_all (λ name. is_some (digits_of_name (table_view l.decimals) name)) (drop l.name-index l.names)
      ≡ list_all (λ name. is_some (digits_of_name (table_view l.decimals) name)) l.names;
}
