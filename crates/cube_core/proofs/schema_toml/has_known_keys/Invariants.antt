use Rattle.std.proofs.Common.{◌≡◌, string_bytes}
use Rattle.std.specs.List.{list_all}
use Rattle.toml.specs.View.{table_view}
use Rattle.cube_core.specs.Layout.{is_listed}
use Rattle.cube_core.specs.SchemaDocument.{known_keys, has_known_keys}
use Rattle.cube_core.proofs.schema_toml.has_known_keys.Given as goal

-- the keys to come are known exactly where all are
abbrev pub invariant-loop-key : goal.invariant-loop-key
invariant-loop-key l =
    list_all (λ key. is_listed (string_bytes key) known_keys) l.key-iterator ≡ has_known_keys (table_view l.document)
