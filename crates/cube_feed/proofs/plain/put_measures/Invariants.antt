use Rattle.std.proofs.Common.{◌≡◌, ◌++◌, [], drop, map}
use Rattle.csv.specs.Records.{fields_of, partial_of}
use Rattle.cube_core.specs.Items.{field_at}
use Rattle.cube_core.specs.Plain.{nulls_of, plain_measures}
use Rattle.cube_feed.proofs.plain.put_measures.Given as goal

abbrev pub invariant-loop-measure : goal.invariant-loop-measure
invariant-loop-measure l =
    (partial_of l.plain.row ≡ [])
    × (fields_of l.plain.row ++ plain_measures l.schema (nulls_of l.schema) l.point l.measure
    (map (field_at (fields_of l.fields)) (drop l.measure l.places))
    ≡ fields_of l.initial.plain.row ++ plain_measures l.schema (nulls_of l.schema) l.point 0
    (map (field_at (fields_of l.fields)) l.places))
