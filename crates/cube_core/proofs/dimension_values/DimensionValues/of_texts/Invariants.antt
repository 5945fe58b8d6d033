use Rattle.std.proofs.Common.{◌≡◌, map, take, option_map}
use Rattle.cube_core.proofs.dimension_values.DimensionValues.of_texts.Given as goal

abbrev pub invariant-loop-value : goal.invariant-loop-value
invariant-loop-value l = l.copies ≡ map (option_map (λ text. text.now)) (take l.value-index l.values)
