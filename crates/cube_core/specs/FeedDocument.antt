-- What the table `feed` of a schema's document says (TOML 1.1; this project's choice of the keys).
use Rattle.std.specs.Prelude.{◌==◌, ◌||◌, ◌&&◌, ℕ, pos, Bool, true, not, nat_le, is_some, codes, List, [], ◌∷◌}
use Rattle.std.specs.Prelude.{◌++◌, Option, Some, None, option_and_then, option_map, unwrap_or, if◌then◌else◌}
use Rattle.std.specs.Option.{option_map_or}
use Rattle.std.specs.List.{list_all, filter_map}
use Rattle.toml.specs.Data.{Data, string, integer, table, as_array, as_str, as_table, Items, no_items, item, Members}
use Rattle.toml.specs.Data.{no_members, member, get_member}
use Rattle.cube_core.specs.Layout.{is_listed, is_delimiter}
use Rattle.cube_core.specs.Takes.{null_text}
use Rattle.cube_core.specs.declared.feed_columns.Column.{Column}
use Rattle.cube_core.specs.declared.feed_columns.FeedColumns.{FeedColumns}

-- the texts of an array, where it holds nothing else
abbrev pub texts_of : Items → Option (List (List ℕ))
texts_of no_items = Some []
texts_of (item (string text) others) = option_map (λ texts. text ∷ texts) (texts_of others)
texts_of (item _ others) = None

-- whether a table has no other keys than these
abbrev pub has_only : List (List ℕ) → Members → Bool
has_only keys no_members = true
has_only keys (member key value others) = is_listed key keys && has_only keys others

-- what a table has at a key, where it may be left out: nothing where what stands there is wrong
abbrev pub if_there : {A : Type 0} → (Data → Option A) → List ℕ → Members → Option (Option A)
if_there reads key members = option_map_or (λ value. option_map Some (reads value)) (get_member key members) (Some None)

-- what a table has at a key, and what holds where it has none: nothing where what stands there is wrong
abbrev pub or_else : {A : Type 0} → (Data → Option A) → A → List ℕ → Members → Option A
or_else reads default key members = option_map_or reads (get_member key members) (Some default)

-- the keys of the table `feed`
abbrev pub feed_keys : List (List ℕ)
feed_keys = codes "id" ∷ codes "op" ∷ codes "null" ∷ codes "delimiter" ∷ codes "point" ∷ codes "columns" ∷ []

-- the keys of the table of a column
abbrev pub cut_keys : List (List ℕ)
cut_keys = codes "column" ∷ codes "first" ∷ []

-- the byte that a text of one byte is
abbrev pub one_byte : List ℕ → Option ℕ
one_byte (byte ∷ []) = Some byte
one_byte _ = None

-- the delimiter that a value is
abbrev pub delimiter_value : Data → Option ℕ
delimiter_value value = option_and_then (λ byte. if is_delimiter byte then Some byte else None)
    (option_and_then one_byte (as_str value))

-- the point or the comma that a value is
abbrev pub point_value : Data → Option ℕ
point_value value = option_and_then (λ byte. if (byte == 46) || (byte == 44) then Some byte else None)
    (option_and_then one_byte (as_str value))

-- the texts that a value is a list of
abbrev pub texts_value : Data → Option (List (List ℕ))
texts_value value = option_and_then texts_of (as_array value)

-- the number of characters that a value is: a whole number from 1 to 255
abbrev pub count_value : Data → Option ℕ
count_value (integer (pos n)) = if nat_le 1 n && nat_le n 255 then Some n else None
count_value _ = None

-- the column that a table of exactly these two keys names
abbrev pub cut_column : Members → Option Column
cut_column members =
    if has_only cut_keys members
    then option_and_then (λ name. option_map (λ count. record { name = name; first = Some count })
    (option_and_then count_value (get_member (codes "first") members)))
    (option_and_then as_str (get_member (codes "column") members))
    else None

-- the column of a dimension that a value names
abbrev pub column_value : Data → Option Column
column_value (string name) = Some (record { name = name; first = None })
column_value (table members) = cut_column members
column_value _ = None

-- the column of a dimension, by the table `columns`: that of its own name where it has no key there
abbrev pub dimension_column : Members → List ℕ → Option Column
dimension_column columns name = or_else column_value (record { name = name; first = None }) name columns

-- the column of a measure
abbrev pub measure_column : Members → List ℕ → Option (List ℕ)
measure_column columns name = or_else as_str name name columns

-- the table `columns`; an empty one where there is none
abbrev pub columns_value : Members → Option Members
columns_value feed = or_else as_table no_members (codes "columns") feed

-- what the keys of `feed` say beside the columns, each where what is said of it is right
abbrev pub id_in : Members → Option (Option (List ℕ))
id_in feed = if_there as_str (codes "id") feed

abbrev pub op_in : Members → Option (Option (List ℕ))
op_in feed = if_there as_str (codes "op") feed

abbrev pub nulls_in : Members → Option (List (List ℕ))
nulls_in feed = or_else texts_value (null_text ∷ []) (codes "null") feed

abbrev pub delimiter_in : Members → Option ℕ
delimiter_in feed = or_else delimiter_value 44 (codes "delimiter") feed

abbrev pub point_in : Members → Option ℕ
point_in feed = or_else point_value 46 (codes "point") feed

-- whether a table names a column of ids, or none of operations
abbrev pub is_op_with_id : Members → Bool
is_op_with_id feed = is_some (unwrap_or (id_in feed) None) || not (is_some (unwrap_or (op_in feed) None))

-- whether the point isn't the delimiter
abbrev pub is_point_apart : Members → Bool
is_point_apart feed = not (unwrap_or (point_in feed) 46 == unwrap_or (delimiter_in feed) 44)

-- whether a table has no other keys than `feed` may have, those of names and of single bytes are right, no column of
-- operations stands without one of ids, and the point isn't the delimiter
abbrev pub are_plain_keys : Members → Bool
are_plain_keys feed =
    has_only feed_keys feed
    && is_some (id_in feed) && is_some (op_in feed) && is_some (delimiter_in feed) && is_some (point_in feed)
    && is_op_with_id feed && is_point_apart feed

-- whether each name of a schema has a column, and there is no other key
abbrev pub are_columns : List (List ℕ) → List (List ℕ) → Members → Bool
are_columns dimensions measures columns =
    has_only (dimensions ++ measures) columns
    && list_all (λ name. is_some (dimension_column columns name)) dimensions
    && list_all (λ name. is_some (measure_column columns name)) measures

-- whether a table `feed` is right: its plain keys are, null is spelled by texts, and the columns are those of the
-- schema
abbrev pub is_feed_table : List (List ℕ) → List (List ℕ) → Members → Bool
is_feed_table dimensions measures feed =
    are_plain_keys feed && is_some (nulls_in feed) && is_some (columns_value feed)
    && are_columns dimensions measures (unwrap_or (columns_value feed) no_members)

-- the columns that the table `feed` says, where all its keys are right
abbrev pub feed_columns : List (List ℕ) → List (List ℕ) → Members → FeedColumns
feed_columns dimensions measures feed = let columns = unwrap_or (columns_value feed) no_members in record {
  id = unwrap_or (id_in feed) None;
  op = unwrap_or (op_in feed) None;
  nulls = unwrap_or (nulls_in feed) [];
  delimiter = unwrap_or (delimiter_in feed) 44;
  point = unwrap_or (point_in feed) 46;
  dimensions = filter_map (dimension_column columns) dimensions;
  measures = filter_map (measure_column columns) measures;
}

-- the columns that a value at `feed` says, where it is right
abbrev pub columns_of_feed : List (List ℕ) → List (List ℕ) → Data → Option FeedColumns
columns_of_feed dimensions measures (table feed) =
    if is_feed_table dimensions measures feed then Some (feed_columns dimensions measures feed) else None
columns_of_feed dimensions measures _ = None

-- the columns that what stands at `feed` says, where it is right; none where nothing stands there
abbrev pub columns_of_value : List (List ℕ) → List (List ℕ) → Option Data → Option (Option FeedColumns)
columns_of_value dimensions measures feed =
    option_map_or (λ value. option_map Some (columns_of_feed dimensions measures value)) feed (Some None)
