use Rattle.std.proofs.Common.{◌≡◌, ◌++◌, drop, map}
use Rattle.std.specs.List.{list_all}
use Rattle.csv.specs.Records.{fields_of}
use Rattle.cube_core.specs.FeedRecords.{stands_once}
use Rattle.cube_feed.specs.Columns.{dimension_place, name_of}
use Rattle.cube_feed.proofs.columns.dimension_places.Given as goal

abbrev pub invariant-loop-column : goal.invariant-loop-column
invariant-loop-column l =
    (l.places.items ++ map (dimension_place (fields_of l.header)) (drop l.column-index l.columns)
    ≡ map (dimension_place (fields_of l.header)) l.columns)
    × (list_all (stands_once (fields_of l.header)) (map name_of (drop l.column-index l.columns))
    ≡ list_all (stands_once (fields_of l.header)) (map name_of l.columns))
