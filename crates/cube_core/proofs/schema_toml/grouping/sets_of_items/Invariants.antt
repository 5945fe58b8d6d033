use Rattle.std.proofs.Common.{◌≡◌, ◌++◌, drop, option_map}
use Rattle.toml.specs.View.{items_view}
use Rattle.cube_core.specs.SchemaDocument.{sets_of_items}
use Rattle.cube_core.proofs.schema_toml.grouping.sets_of_items.Given as goal

-- the sets so far and those to come are the sets of all
abbrev pub invariant-loop-value : goal.invariant-loop-value
invariant-loop-value l =
    option_map (λ sets. l.sets.items ++ sets) (sets_of_items l.dimensions (items_view (drop l.value-index l.values)))
    ≡ sets_of_items l.dimensions (items_view l.values)
