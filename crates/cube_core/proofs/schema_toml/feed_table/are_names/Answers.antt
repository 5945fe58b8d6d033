use Rattle.std.proofs.Common.{◌∙◌, ◌++◌, sym, ap, string_bytes}
use Rattle.std.specs.List.{list_all}
use Rattle.cube_core.specs.Layout.{is_listed}
use Rattle.cube_core.proofs.SchemaReadingLaws.{has_only-view}
use Rattle.cube_core.proofs.schema_toml.feed_table.are_names.Goals as goal

pub loop-key-init : goal.loop-key-init
loop-key-init c =
    ap (list_all (λ key. is_listed (string_bytes key) (c.args.dimensions.now ++ c.args.measures.now)))
    (c.into_iter-key-iterator.ensures.into_iter_gives ∙ c.keys-key-items.ensures.rest)
    ∙ sym (has_only-view (c.args.dimensions.now ++ c.args.measures.now) c.args.columns.now.entries)
