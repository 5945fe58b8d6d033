use Rattle.std.proofs.Common.{◌≡◌, take}
use Rattle.cube_core.proofs.partial.copy_measures.Given as goal

abbrev pub invariant-loop-field : goal.invariant-loop-field
invariant-loop-field l = l.copies.items ≡ take l.field-index l.fields
