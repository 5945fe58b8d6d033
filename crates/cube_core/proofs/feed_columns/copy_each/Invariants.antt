use Rattle.std.proofs.Common.{◌≡◌, take}
use Rattle.cube_core.proofs.feed_columns.copy_each.Given as goal

abbrev pub invariant-loop-column : goal.invariant-loop-column
invariant-loop-column l = l.copies.items ≡ take l.column-index l.columns
