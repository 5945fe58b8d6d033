use Rattle.std.proofs.Common.{◌≡◌, map, take}
use Rattle.std.specs.List.{range_with_len}
use Rattle.cube_core.specs.SchemaDocument.{mask_of_names}
use Rattle.cube_core.proofs.schema_toml.grouping.rollup_sets.Given as goal

abbrev pub invariant-loop-first : goal.invariant-loop-first
invariant-loop-first l =
    l.sets.items ≡ map (λ first. mask_of_names l.dimensions (take first l.dimensions)) (range_with_len 0 l.first)
