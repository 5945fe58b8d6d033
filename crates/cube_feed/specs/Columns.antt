-- Where the columns of a feed stand, told of single names, and what putting fields into a record does (this project's
-- choice).
use Rattle.std.specs.Prelude.{◌≡◌, ℕ, List, [], ◌∷◌, ◌++◌, Option, Some, None, if◌then◌else◌}
use Rattle.std.specs.Option.{option_map_or}
use Rattle.csv.specs.Records.{Row, fields_of, partial_of}
use Rattle.cube_core.specs.FeedRecords.{place_in, stands_once}
use Rattle.cube_core.specs.declared.feed_columns.Column.{Column}
use Rattle.cube_core.specs.declared.feed_columns.DimensionPlace.{DimensionPlace}

-- the name of a column
abbrev pub name_of : Column → List ℕ
name_of column = column.name

-- where a dimension stands, by a header
abbrev pub dimension_place : List (List ℕ) → Column → DimensionPlace
dimension_place header column = record { place = place_in header column.name; first = column.first }

-- the name that there is, as a list
abbrev pub named : Option (List ℕ) → List (List ℕ)
named name = option_map_or (λ known. known ∷ []) name []

-- the only place at which a name stands in a header, if it stands in it exactly once
abbrev pub only_place : List (List ℕ) → List ℕ → Option ℕ
only_place header name = if stands_once header name then Some (place_in header name) else None

-- these fields were put behind those of a record, and none is begun
abbrev pub Puts : Row → List (List ℕ) → Row → Type 0
Puts old fields new = (fields_of new ≡ fields_of old ++ fields) × (partial_of new ≡ [])
