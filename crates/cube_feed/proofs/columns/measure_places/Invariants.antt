use Rattle.std.proofs.Common.{◌≡◌, ◌++◌, drop, map}
use Rattle.std.specs.List.{list_all}
use Rattle.csv.specs.Records.{fields_of}
use Rattle.cube_core.specs.FeedRecords.{place_in, stands_once}
use Rattle.cube_feed.proofs.columns.measure_places.Given as goal

abbrev pub invariant-loop-name : goal.invariant-loop-name
invariant-loop-name l =
    (l.places.items ++ map (place_in (fields_of l.header)) (drop l.name-index l.names)
    ≡ map (place_in (fields_of l.header)) l.names)
    × (list_all (stands_once (fields_of l.header)) (drop l.name-index l.names)
    ≡ list_all (stands_once (fields_of l.header)) l.names)
