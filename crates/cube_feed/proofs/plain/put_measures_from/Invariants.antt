use Rattle.std.proofs.Common.{◌≡◌, ◌≤◌, ◌-◌, ◌++◌, [], ◌∷◌, drop}
use Rattle.csv.specs.Records.{fields_of, partial_of}
use Rattle.cube_core.specs.Plain.{nulls_of, plain_measures}
use Rattle.cube_core.specs.Takes.{null_text}
use Rattle.cube_feed.proofs.plain.put_measures_from.Given as goal

abbrev pub invariant-loop-place : goal.invariant-loop-place
invariant-loop-place l =
    (l.first ≤ l.place) × (partial_of l.plain ≡ [])
    × (fields_of l.plain ++ plain_measures l.schema (null_text ∷ nulls_of l.schema) 46 (l.place - l.first)
    (drop l.place (fields_of l.fields))
    ≡ fields_of l.initial.plain ++ plain_measures l.schema (null_text ∷ nulls_of l.schema) 46 0
    (drop l.first (fields_of l.fields)))
