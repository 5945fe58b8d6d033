use Rattle.std.proofs.Common.{◌≡◌, ◌++◌, drop, option_map}
use Rattle.toml.specs.View.{items_view}
use Rattle.cube_core.specs.FeedDocument.{texts_of}
use Rattle.cube_core.proofs.schema_toml.texts_of.Given as goal

-- the texts so far and those to come are the texts of all
abbrev pub invariant-loop-value : goal.invariant-loop-value
invariant-loop-value l =
    option_map (λ texts. l.texts.items ++ texts) (texts_of (items_view (drop l.value-index l.values)))
    ≡ texts_of (items_view l.values)
