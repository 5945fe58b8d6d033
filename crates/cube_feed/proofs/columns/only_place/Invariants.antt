use Rattle.csv.specs.Records.{fields_of}
use Rattle.cube_feed.proofs.ColumnLaws.{FoundBefore}
use Rattle.cube_feed.proofs.columns.only_place.Given as goal

abbrev pub invariant-loop-place : goal.invariant-loop-place
invariant-loop-place l = FoundBefore (fields_of l.header) l.name l.place l.found
