use Rattle.std.proofs.Common.{◌≡◌, ◌++◌, [], ◌∷◌, map, None}
use Rattle.std.specs.Prelude.{slice_range}
use Rattle.csv.specs.Records.{fields_of, partial_of}
use Rattle.cube_core.specs.Plain.{nulls_of, plain_dimension}
use Rattle.cube_core.specs.Takes.{null_text}
use Rattle.cube_feed.proofs.plain.put_dimensions_before.Given as goal

abbrev pub invariant-loop-place : goal.invariant-loop-place
invariant-loop-place l = let plain = plain_dimension l.schema (null_text ∷ nulls_of l.schema) None in
    (partial_of l.plain ≡ [])
    × (fields_of l.plain ++ map plain (slice_range (fields_of l.fields) l.place l.end)
    ≡ fields_of l.initial.plain ++ map plain (slice_range (fields_of l.fields) 2 l.end))
