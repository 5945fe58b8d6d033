use Rattle.std.proofs.Common.{◌≡◌, take}
use Rattle.cube_core.proofs.dimension_values.widened.Given as goal

abbrev pub invariant-loop-span : goal.invariant-loop-span
invariant-loop-span l = l.wide.items ≡ take l.span-index l.spans
