use Rattle.std.proofs.Common.{◌≡◌, ◌+◌}
use Rattle.std.specs.Prelude.{slice_range, sum_by}
use Rattle.csv.specs.Records.{fields_of, text_of}
use Rattle.cube_core.specs.Values.{parts_of}
use Rattle.cube_feed.specs.Contiguous.{BeginsAt}
use Rattle.cube_feed.proofs.contiguous.end_of.Given as goal

abbrev pub invariant-loop-place : goal.invariant-loop-place
invariant-loop-place l =
    BeginsAt l.row l.place l.stop
    × (l.begin + sum_by (λ len. len) l.lens.items ≡ l.stop)
    × (parts_of l.lens.items (slice_range (text_of l.row) l.begin l.stop)
    ≡ slice_range (fields_of l.row) l.fn.start l.place)
