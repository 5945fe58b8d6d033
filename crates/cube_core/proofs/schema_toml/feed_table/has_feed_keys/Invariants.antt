use Rattle.std.proofs.Common.{◌≡◌, string_bytes}
use Rattle.std.specs.List.{list_all}
use Rattle.toml.specs.View.{table_view}
use Rattle.cube_core.specs.FeedDocument.{feed_keys, has_only}
use Rattle.cube_core.specs.Layout.{is_listed}
use Rattle.cube_core.proofs.schema_toml.feed_table.has_feed_keys.Given as goal

-- the keys to come are known exactly where all are
abbrev pub invariant-loop-key : goal.invariant-loop-key
invariant-loop-key l =
    list_all (λ key. is_listed (string_bytes key) feed_keys) l.key-iterator ≡ has_only feed_keys (table_view l.feed)
