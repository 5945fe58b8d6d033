-- The words of the laws on feeds whose columns are known by their names (this project's choice).
use Rattle.std.specs.Prelude.{◌≡◌, ◌||◌, ℕ, Bool, List, [], ◌∷◌, length, map, codes, Some, None}
use Rattle.std.specs.List.{AllByRecursion}
use Rattle.std.specs.Str.{bytes_eq}
use Rattle.cube_core.specs.FeedRecords.{names_read, place_in}
use Rattle.cube_core.specs.Items.{field_at}
use Rattle.cube_core.specs.Layout.{Layout}
use Rattle.cube_core.specs.Takes.{null_text}
use Rattle.cube_core.specs.declared.feed_columns.Column.{Column}
use Rattle.cube_core.specs.declared.feed_columns.FeedColumns.{FeedColumns}

-- the whole column of this name
abbrev pub whole_column : List ℕ → Column
whole_column name = record { name = name; first = None }

-- the columns of a schema's own order, by their names: `op` and `id`, and each dimension and measure under its own
-- name, with `\N` alone for null, with commas, and with the point
abbrev pub own_columns : Layout → FeedColumns
own_columns s = record {
  id = Some (codes "id");
  op = Some (codes "op");
  nulls = null_text ∷ [];
  delimiter = 44;
  point = 46;
  dimensions = map whole_column s.dimensions;
  measures = s.measures;
}

-- the columns that go by nothing but the names of a schema: without ids and operations, with `\N` alone for null,
-- with commas, and with the point
abbrev pub bare_columns : List (List ℕ) → List (List ℕ) → FeedColumns
bare_columns dimensions measures = record {
  id = None;
  op = None;
  nulls = null_text ∷ [];
  delimiter = 44;
  point = 46;
  dimensions = map whole_column dimensions;
  measures = measures;
}

-- the same schema, with feeds of these columns, and with feeds of columns in its order
abbrev pub by_names : FeedColumns → Layout → Layout
by_names columns s = record s { columns = Some columns }

abbrev pub in_order : Layout → Layout
in_order s = record s { columns = None }

-- whether the operation of a record is one that feeds by names alone have
abbrev pub puts_or_removes : List (List ℕ) → Bool
puts_or_removes fields = bytes_eq (field_at fields 0) (codes "P") || bytes_eq (field_at fields 0) (codes "R")

-- two records are read alike: each is as wide as its header, and they have the same fields in the columns that are read
pub record AreReadAlike (columns : FeedColumns) (header other fields others : List (List ℕ)) : Type 0 where
  pub width : length fields ≡ length header
  pub other_width : length others ≡ length other
  pub same : AllByRecursion (λ name. field_at fields (place_in header name) ≡ field_at others (place_in other name))
      (names_read columns)

-- the fields of a record that stand at these places, in their order
abbrev pub picked : List ℕ → List (List ℕ) → List (List ℕ)
picked places fields = map (field_at fields) places
