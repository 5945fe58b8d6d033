use Rattle.std.proofs.Common.{◌≡◌, ◌++◌, string_bytes}
use Rattle.std.specs.List.{list_all}
use Rattle.toml.specs.View.{table_view}
use Rattle.cube_core.specs.FeedDocument.{has_only}
use Rattle.cube_core.specs.Layout.{is_listed}
use Rattle.cube_core.proofs.schema_toml.feed_table.are_names.Given as goal

-- the keys to come are names exactly where all are
abbrev pub invariant-loop-key : goal.invariant-loop-key
invariant-loop-key l =
    list_all (λ key. is_listed (string_bytes key) (l.dimensions ++ l.measures)) l.key-iterator
    ≡ has_only (l.dimensions ++ l.measures) (table_view l.columns)
