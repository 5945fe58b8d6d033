use Rattle.std.proofs.Common.{◌≡◌, ◌++◌, [], length, map}
use Rattle.std.specs.Prelude.{slice_range}
use Rattle.csv.specs.Records.{fields_of, partial_of}
use Rattle.cube_core.specs.Plain.{in_units}
use Rattle.cube_feed.proofs.condition.all_in_units.Given as goal

abbrev pub invariant-loop-place : goal.invariant-loop-place
invariant-loop-place l =
    (partial_of l.plain ≡ [])
    × (fields_of l.plain ++ map (in_units l.digits 46) (slice_range (fields_of l.fields) l.place (length (fields_of l.fields)))
    ≡ map (in_units l.digits 46) (slice_range (fields_of l.fields) 0 (length (fields_of l.fields))))
