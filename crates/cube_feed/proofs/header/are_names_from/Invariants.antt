use Rattle.std.proofs.Common.{◌≡◌, ◌+◌, drop, length}
use Rattle.std.specs.Prelude.{slice_range}
use Rattle.cube_core.specs.Items.{same_fields}
use Rattle.cube_feed.proofs.header.are_names_from.Given as goal

abbrev pub invariant-loop-i : goal.invariant-loop-i
invariant-loop-i l =
    same_fields (slice_range l.fields (l.start + l.i) (l.start + length l.names)) (drop l.i l.names)
    ≡ same_fields (slice_range l.fields l.start (l.start + length l.names)) l.names
