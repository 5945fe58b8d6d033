-- The plain record that a record of a feed stands for: its operation, its id, and a field for each dimension and each
-- measure, in which null is written as `\N`, and a number with digits behind a point as the whole number of units that it
-- is (this project's choice).
use Rattle.std.specs.Prelude.{◌==◌, ◌||◌, ◌&&◌, ◌+◌, ◌-◌, nat_lt, ℕ, Bool, List, [], ◌∷◌, ◌++◌, length, map, take, drop}
use Rattle.std.specs.Prelude.{replicate, position, codes, decimal, Option, Some, None, unwrap_or, if◌then◌else◌}
use Rattle.std.specs.List.{list_all}
use Rattle.std.specs.Str.{bytes_eq, is_utf8, all_ascii_digits}
use Rattle.std.specs.Str.Parse.{without_leading_sign}
use Rattle.std.specs.Fmt.{take_chars}
use Rattle.std.specs.Option.{option_map_or}
use Rattle.cube_core.specs.Items.{field_at, dimension_fields, measure_fields, is_keep, arranged}
use Rattle.cube_core.specs.Layout.{Layout, decimals_of, is_listed}
use Rattle.cube_core.specs.Takes.{null_text}
use Rattle.cube_core.specs.declared.feed_columns.FeedColumns.{FeedColumns}
use Rattle.cube_core.specs.declared.feed_columns.ColumnPlaces.{ColumnPlaces}
use Rattle.cube_core.specs.declared.feed_columns.DimensionPlace.{DimensionPlace}

-- the byte between the fields of a schema's feeds
abbrev pub delimiter_of : Layout → ℕ
delimiter_of s = option_map_or (λ (columns : FeedColumns). columns.delimiter) s.columns 44

-- what null is spelled as in a schema's feeds
abbrev pub nulls_of : Layout → List (List ℕ)
nulls_of s = option_map_or (λ (columns : FeedColumns). columns.nulls) s.columns (null_text ∷ [])

-- the first so many characters of a text, or all of it; a field that isn't UTF-8 stays
abbrev pub first_of : Option ℕ → List ℕ → List ℕ
first_of None field = field
first_of (Some count) field = if is_utf8 field then take_chars count field else field

-- the plain field of a dimension: one that keeps a value stays, null is written `\N`, and of another text the first
-- characters are taken
abbrev pub plain_dimension : Layout → List (List ℕ) → Option ℕ → List ℕ → List ℕ
plain_dimension s nulls first field =
    if is_keep s field then field
    else if is_listed field nulls then null_text
    else first_of first field

-- the byte before the decimals in a schema's feeds by names: a point, unless it says a comma
abbrev pub point_of : Layout → ℕ
point_of s = option_map_or (λ (columns : FeedColumns). columns.point) s.columns 46

-- where a point stands in a field; behind it all where it has none
abbrev pub point_at : ℕ → List ℕ → ℕ
point_at point field = unwrap_or (position (λ byte. byte == point) field) (length field)

-- whether a text is a sign or none, and then one digit or more
abbrev pub is_whole : List ℕ → Bool
is_whole text = nat_lt 0 (length (without_leading_sign text)) && all_ascii_digits (without_leading_sign text)

-- whether digits may stand behind a point: there is one, and from the k-th on all are zeros
abbrev pub is_fraction : ℕ → List ℕ → Bool
is_fraction k digits =
    nat_lt 0 (length digits) && all_ascii_digits digits && list_all (λ digit. digit == 48) (drop k digits)

-- whether a field is a number with at most k digits behind a point at this place: a whole one, and nothing more or a
-- fraction
abbrev pub is_decimal_at : ℕ → ℕ → List ℕ → Bool
is_decimal_at k place field =
    is_whole (take place field) && ((place == length field) || is_fraction k (drop (place + 1) field))

-- a field whose point, at this place, is moved by k digits, zeros where there are none
abbrev pub moved_from : ℕ → ℕ → List ℕ → List ℕ
moved_from k place field = let digits = drop (place + 1) field in
    take place field ++ take k digits ++ replicate (k - length digits) 48

-- a number as the whole number of units of 10^-k that it is, where a measure may have k digits behind a point;
-- a field that is no such number stays, and isn't a whole one
abbrev pub in_units : Option ℕ → ℕ → List ℕ → List ℕ
in_units None point field = field
in_units (Some k) point field = let place = point_at point field in
    if is_decimal_at k place field then moved_from k place field else field

-- the plain field of a measure of this number: one that keeps a value stays, null is written `\N`, a `\N` that isn't
-- null is left empty, which is no number, and a number is written in units
abbrev pub plain_measure : Layout → List (List ℕ) → ℕ → ℕ → List ℕ → List ℕ
plain_measure s nulls point m field =
    if is_keep s field then field
    else if is_listed field nulls then null_text
    else if bytes_eq field null_text then []
    else in_units (decimals_of s m) point field

-- the plain fields of measures, from that of this number on
abbrev pub plain_measures : Layout → List (List ℕ) → ℕ → ℕ → List (List ℕ) → List (List ℕ)
plain_measures s nulls point m [] = []
plain_measures s nulls point m (field ∷ fields) =
    plain_measure s nulls point m field ∷ plain_measures s nulls point (m + 1) fields

-- the plain record of one whose fields stand in the order of a plain record: `\N` is null in it, whatever else is, and
-- decimals stand behind a point
abbrev pub plain_of_arranged : Layout → List (List ℕ) → List (List ℕ)
plain_of_arranged s fields = let nulls = null_text ∷ nulls_of s in
    take 2 fields
    ++ map (plain_dimension s nulls None) (dimension_fields s fields)
    ++ plain_measures s nulls 46 0 (measure_fields s fields)

-- the plain record of one whose fields stand in the order of the schema
abbrev pub plain_in_order : Layout → List (List ℕ) → List (List ℕ)
plain_in_order s fields = plain_of_arranged s (arranged s fields)

-- the plain field of a dimension that stands at a place
abbrev pub plain_at : Layout → List (List ℕ) → DimensionPlace → List ℕ
plain_at s fields at = plain_dimension s (nulls_of s) at.first (field_at fields at.place)

-- the plain record of one that is read by the names of its columns, the data record of this number: without a column of
-- operations an insert, and without one of ids under its number. Of another width than the header it has a field too
-- many
abbrev pub plain_by_name : Layout → ColumnPlaces → ℕ → List (List ℕ) → List (List ℕ)
plain_by_name s at number fields =
    option_map_or (field_at fields) at.op (codes "I")
    ∷ option_map_or (field_at fields) at.id (decimal number)
    ∷ map (plain_at s fields) at.dimensions
    ++ plain_measures s (nulls_of s) (point_of s) 0 (map (field_at fields) at.measures)
    ++ (if length fields == at.width then [] else [] ∷ [])
