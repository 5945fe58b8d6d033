use Rattle.std.proofs.Common.{◌≡◌, ◌≤◌, ◌-◌, ◌++◌, [], drop}
use Rattle.csv.specs.Records.{fields_of, partial_of}
use Rattle.cube_feed.specs.Arranged.{elements_of}
use Rattle.cube_feed.proofs.arranged.put_measures.Given as goal

abbrev pub invariant-loop-place : goal.invariant-loop-place
invariant-loop-place l =
    (l.first ≤ l.place) × (partial_of l.row ≡ [])
    × (fields_of l.row ++ elements_of l.kind l.text_places (l.place - l.first) (drop l.place (fields_of l.fields))
    ≡ fields_of l.initial.row ++ elements_of l.kind l.text_places 0 (drop l.first (fields_of l.fields)))
