-- What the array `texts` of a schema's document says: which measures are texts that are counted (TOML 1.1; this project's
-- choice of the key).
use Rattle.std.specs.Prelude.{◌&&◌, ◌++◌, ℕ, Bool, false, not, is_some, if◌then◌else◌, List, [], length, map}
use Rattle.std.specs.Prelude.{filter, get_or, Option, Some, None, option_and_then}
use Rattle.std.specs.List.{list_all, range_with_len}
use Rattle.toml.specs.Data.{Data, table, get_member}
use Rattle.cube_core.specs.FeedDocument.{texts_value}
use Rattle.cube_core.specs.Layout.{is_listed, are_distinct}
use Rattle.cube_core.specs.TextPlaces.{at_places, beside_places}
use Rattle.cube_core.specs.declared.feed_columns.Column.{Column}
use Rattle.cube_core.specs.declared.feed_columns.FeedColumns.{FeedColumns}

-- whether the table `decimals` has a key of this name
abbrev pub has_digits : Option Data → List ℕ → Bool
has_digits (Some (table decimals)) name = is_some (get_member name decimals)
has_digits _ name = false

-- whether a name may stand in `texts`: it is that of a measure without digits behind a point
abbrev pub may_be_text : List (List ℕ) → Option Data → List ℕ → Bool
may_be_text measures decimals name = is_listed name measures && not (has_digits decimals name)

-- the places of the measures of these names
abbrev pub places_of_names : List (List ℕ) → List (List ℕ) → List ℕ
places_of_names measures names =
    filter (λ place. is_listed (get_or measures place []) names) (range_with_len 0 (length measures))

-- the places of the measures that names say are texts, where each may be one, and none stands twice
abbrev pub text_places_named : List (List ℕ) → Option Data → List (List ℕ) → Option (List ℕ)
text_places_named measures decimals names =
    if list_all (may_be_text measures decimals) names && are_distinct names then Some (places_of_names measures names)
    else None

-- the places of the measures that are texts, by what stands at `decimals` and at `texts`, where it is right; none where
-- nothing stands there
abbrev pub text_places_of_value : List (List ℕ) → Option Data → Option Data → Option (List ℕ)
text_places_of_value measures decimals None = Some []
text_places_of_value measures decimals (Some value) =
    option_and_then (text_places_named measures decimals) (texts_value value)

-- what aggregates are of, where texts stand at these places among all measures: the numbers, and then the texts
abbrev pub counted_of_measures : List ℕ → List (List ℕ) → List (List ℕ)
counted_of_measures places measures = beside_places places 0 measures ++ at_places places 0 measures

-- the column of a text that is counted: all of it is read
abbrev pub text_column : List ℕ → Column
text_column name = record { name = name; first = None }

-- columns by name, where texts stand at these places among those of all measures: they are read as dimensions are
abbrev pub columns_with_texts : List ℕ → FeedColumns → FeedColumns
columns_with_texts places columns = record columns {
  dimensions = columns.dimensions ++ map text_column (at_places places 0 columns.measures);
  measures = beside_places places 0 columns.measures;
}
