use Rattle.std.proofs.Common.{◌≡◌, ◌++◌, []}
use Rattle.std.specs.Prelude.{slice_range}
use Rattle.csv.specs.Records.{fields_of, partial_of}
use Rattle.cube_feed.proofs.arranged.put_fields.Given as goal

abbrev pub invariant-loop-place : goal.invariant-loop-place
invariant-loop-place l =
    (partial_of l.row ≡ [])
    × (fields_of l.row ++ slice_range (fields_of l.fields) l.place l.end
    ≡ fields_of l.initial.row ++ slice_range (fields_of l.fields) l.start l.end)
