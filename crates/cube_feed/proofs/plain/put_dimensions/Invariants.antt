use Rattle.std.proofs.Common.{◌≡◌, ◌++◌, [], drop, map}
use Rattle.csv.specs.Records.{fields_of, partial_of}
use Rattle.cube_core.specs.Plain.{plain_at}
use Rattle.cube_feed.proofs.plain.put_dimensions.Given as goal

abbrev pub invariant-loop-at : goal.invariant-loop-at
invariant-loop-at l =
    (partial_of l.plain ≡ [])
    × (fields_of l.plain ++ map (plain_at l.schema (fields_of l.fields)) (drop l.at-index l.places)
    ≡ fields_of l.initial.plain ++ map (plain_at l.schema (fields_of l.fields)) l.places)
