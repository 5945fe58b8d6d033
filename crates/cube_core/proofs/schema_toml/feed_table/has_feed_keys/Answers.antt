use Rattle.std.proofs.Common.{◌∙◌, sym, ap, string_bytes}
use Rattle.std.specs.List.{list_all}
use Rattle.cube_core.specs.FeedDocument.{feed_keys}
use Rattle.cube_core.specs.Layout.{is_listed}
use Rattle.cube_core.proofs.SchemaReadingLaws.{has_only-view}
use Rattle.cube_core.proofs.schema_toml.feed_table.has_feed_keys.Goals as goal

pub loop-key-init : goal.loop-key-init
loop-key-init c =
    ap (list_all (λ key. is_listed (string_bytes key) feed_keys))
    (c.into_iter-key-iterator.ensures.into_iter_gives ∙ c.keys-key-items.ensures.rest)
    ∙ sym (has_only-view feed_keys c.args.feed.now.entries)
