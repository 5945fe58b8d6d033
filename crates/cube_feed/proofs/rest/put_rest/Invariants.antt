use Rattle.std.proofs.Common.{◌≡◌, ◌++◌, [], drop}
use Rattle.csv.specs.Records.{fields_of, partial_of}
use Rattle.cube_feed.proofs.rest.put_rest.Given as goal

abbrev pub invariant-loop-place : goal.invariant-loop-place
invariant-loop-place l =
    (partial_of l.rest ≡ [])
    × (fields_of l.rest ++ drop l.place (fields_of l.fields) ≡ drop l.from (fields_of l.fields))
