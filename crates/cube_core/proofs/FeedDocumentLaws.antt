-- The columns that the table `feed` of a document says: they are lawful, and when there are none.
use Rattle.std.proofs.Common.{◌≡◌, ◌≤◌, ℕ, Bool, true, false, ◌||◌, is_some, List, [], ◌++◌, length, codes}
use Rattle.std.proofs.Common.{Option, Some, None, IfSome, IfNone, refl, sym, ap, ◌∙◌, subst, arith}
use Rattle.std.specs.Prelude.{◌==◌, unwrap_or, option_map, option_and_then, if◌then◌else◌}
use Rattle.std.specs.List.{list_all, filter_map}
use Rattle.std.specs.Option.{option_map_or}
use Rattle.std.proofs.lemmas.Bool.{and_parts, and_from, and_left, and_right}
use Rattle.std.proofs.lemmas.Option.{same_Some}
use Rattle.toml.specs.Data.{Data, string, integer, float, boolean, datetime, array, table, as_str, get_member, Members}
use Rattle.toml.specs.Data.{no_members}
use Rattle.cube_core.specs.FeedDocument.{has_only, one_byte, delimiter_value, point_value, id_in, op_in, nulls_in}
use Rattle.cube_core.specs.FeedDocument.{delimiter_in, point_in, columns_value, is_op_with_id, is_point_apart}
use Rattle.cube_core.specs.FeedDocument.{are_plain_keys, are_columns, is_feed_table, feed_columns, columns_of_feed}
use Rattle.cube_core.specs.FeedDocument.{columns_of_value, dimension_column, measure_column}
use Rattle.cube_core.specs.Layout.{is_delimiter, AreColumnsOf}
use Rattle.cube_core.specs.declared.feed_columns.FeedColumns.{FeedColumns}
use Rattle.cube_core.proofs.ItemLaws.{length-filter_map}

-- ---- lawful columns
-- a byte that is taken where it passes a test, and else one that passes it, passes it
kept-passes : (test : ℕ → Bool) (default : ℕ) → test default ≡ true → (found : Option ℕ)
    → test (unwrap_or (option_and_then (λ byte. if test byte then Some byte else None) found) default) ≡ true
kept-passes test default passes None = passes
kept-passes test default passes (Some byte) = by (test byte) refl
  where
    by : (yes : Bool) → test byte ≡ yes → test (unwrap_or (if yes then Some byte else None) default) ≡ true
    by true is = is
    by false is = passes

-- the delimiter of a table is lawful, and its point is one of two
delimiter_in-lawful : (feed : Members) → is_delimiter (unwrap_or (delimiter_in feed) 44) ≡ true
delimiter_in-lawful feed = at (get_member (codes "delimiter") feed)
  where
    at : (found : Option Data)
        → is_delimiter (unwrap_or (option_map_or delimiter_value found (Some 44)) 44) ≡ true
    at None = refl
    at (Some value) = kept-passes is_delimiter 44 refl (option_and_then one_byte (as_str value))

point_in-lawful : (feed : Members)
    → ((unwrap_or (point_in feed) 46 == 46) || (unwrap_or (point_in feed) 46 == 44)) ≡ true
point_in-lawful feed = at (get_member (codes "point") feed)
  where
    is_point : ℕ → Bool
    is_point byte = (byte == 46) || (byte == 44)

    at : (found : Option Data) → is_point (unwrap_or (option_map_or point_value found (Some 46)) 46) ≡ true
    at None = refl
    at (Some value) = kept-passes is_point 46 refl (option_and_then one_byte (as_str value))

-- what a right table is made of
pub record IsRight (dimensions measures : List (List ℕ)) (feed : Members) : Type 0 where
  pub keys : are_plain_keys feed ≡ true
  pub apart : is_point_apart feed ≡ true
  pub with_id : is_op_with_id feed ≡ true
  pub dimensions_are : list_all (λ name. is_some (dimension_column (unwrap_or (columns_value feed) no_members) name))
      dimensions ≡ true
  pub measures_are : list_all (λ name. is_some (measure_column (unwrap_or (columns_value feed) no_members) name))
      measures ≡ true

is_feed_table-parts : (dimensions measures : List (List ℕ)) (feed : Members)
    → is_feed_table dimensions measures feed ≡ true → IsRight dimensions measures feed
is_feed_table-parts dimensions measures feed right =
    let (plain, columns) = and_parts _ _ right in
    let (with_nulls, there) = and_parts _ _ plain in
    let (keys, nulls) = and_parts _ _ with_nulls in
    let (to_op, apart) = and_parts _ _ keys in
    let (to_point, with_id) = and_parts _ _ to_op in
    let (to_dimensions, measures_are) = and_parts _ _ columns in
    let (names, dimensions_are) = and_parts _ _ to_dimensions in
    record {
      keys = keys;
      apart = apart;
      with_id = with_id;
      dimensions_are = dimensions_are;
      measures_are = measures_are;
    }

-- the columns of a right table are lawful
feed_columns-lawful : (dimensions measures : List (List ℕ)) (feed : Members)
    → is_feed_table dimensions measures feed ≡ true
    → AreColumnsOf (length dimensions) (length measures) (feed_columns dimensions measures feed)
feed_columns-lawful dimensions measures feed right =
    let parts = is_feed_table-parts dimensions measures feed right in
    let columns = unwrap_or (columns_value feed) no_members in
    record {
      of_dimensions = length-filter_map (dimension_column columns) dimensions parts.dimensions_are;
      of_measures = length-filter_map (measure_column columns) measures parts.measures_are;
      delimiter = delimiter_in-lawful feed;
      point = and_from _ _ (point_in-lawful feed) parts.apart;
      operations = parts.with_id;
    }

columns_of_table-lawful : (dimensions measures : List (List ℕ)) (feed : Members) (columns : FeedColumns)
    → Some columns ≡ columns_of_feed dimensions measures (table feed)
    → AreColumnsOf (length dimensions) (length measures) columns
columns_of_table-lawful dimensions measures feed columns is = by (is_feed_table dimensions measures feed) refl is
  where
    by : (right : Bool) → is_feed_table dimensions measures feed ≡ right
        → Some columns ≡ (if right then Some (feed_columns dimensions measures feed) else None)
        → AreColumnsOf (length dimensions) (length measures) columns
    by true right same =
        subst (AreColumnsOf (length dimensions) (length measures))
        (sym (same_Some columns (feed_columns dimensions measures feed) same))
        (feed_columns-lawful dimensions measures feed right)
    by false wrong same = cc

columns_of_feed-lawful : (dimensions measures : List (List ℕ)) (value : Data) (columns : FeedColumns)
    → Some columns ≡ columns_of_feed dimensions measures value
    → AreColumnsOf (length dimensions) (length measures) columns
columns_of_feed-lawful dimensions measures (table feed) columns is =
    columns_of_table-lawful dimensions measures feed columns is
columns_of_feed-lawful dimensions measures (string _) columns is = cc
columns_of_feed-lawful dimensions measures (integer _) columns is = cc
columns_of_feed-lawful dimensions measures (float _) columns is = cc
columns_of_feed-lawful dimensions measures (boolean _) columns is = cc
columns_of_feed-lawful dimensions measures (datetime _) columns is = cc
columns_of_feed-lawful dimensions measures (array _) columns is = cc

-- what may be told of a value is told of columns, or of none
option_map-Some : {A : Type 0} (found : Option A) (columns : Option A) → Some columns ≡ option_map Some found
    → columns ≡ found
option_map-Some None columns is = cc
option_map-Some (Some value) columns is = same_Some columns (Some value) is

some-is : {A : Type 0} (found columns : Option A) → Some columns ≡ option_map Some found → is_some columns ≡ true
some-is None columns is = cc
some-is (Some value) columns is = ap is_some (same_Some columns (Some value) is)

pub columns_of_value-lawful : (dimensions measures : List (List ℕ)) (feed : Option Data)
    (columns : Option FeedColumns) → Some columns ≡ columns_of_value dimensions measures feed
    → IfSome columns (AreColumnsOf (length dimensions) (length measures))
columns_of_value-lawful dimensions measures feed None is = tt
columns_of_value-lawful dimensions measures None (Some columns) is = cc
columns_of_value-lawful dimensions measures (Some value) (Some columns) is =
    columns_of_feed-lawful dimensions measures value columns
    (option_map-Some (columns_of_feed dimensions measures value) (Some columns) is)

-- without columns by name there is a measure
pub columns_of_value-some_measure : (dimensions measures : List (List ℕ)) (least : ℕ) (feed : Option Data)
    (columns : Option FeedColumns) → IfNone feed (1 ≤ least) → least ≤ length measures
    → Some columns ≡ columns_of_value dimensions measures feed → columns ≡ None → 1 ≤ length measures
columns_of_value-some_measure dimensions measures least None columns some above is none = omega (arith, some, above)
columns_of_value-some_measure dimensions measures least (Some value) columns some above is none =
    let there : is_some columns ≡ true = some-is (columns_of_feed dimensions measures value) columns is in
    cc

-- ---- reading a table
-- where one of its parts is wrong, a table is
wrong-table : (dimensions measures : List (List ℕ)) (feed : Members) → is_feed_table dimensions measures feed ≡ false
    → None ≡ columns_of_feed dimensions measures (table feed)
wrong-table dimensions measures feed wrong =
    sym (ap (λ (right : Bool). if right then Some (feed_columns dimensions measures feed) else None) wrong)

pub wrong-keys : (dimensions measures : List (List ℕ)) (feed : Members) → are_plain_keys feed ≡ false
    → None ≡ columns_of_feed dimensions measures (table feed)
wrong-keys dimensions measures feed wrong =
    wrong-table dimensions measures feed (and_left _ _ (and_left _ _ (and_left _ _ wrong)))

pub wrong-nulls : (dimensions measures : List (List ℕ)) (feed : Members) → None ≡ nulls_in feed
    → None ≡ columns_of_feed dimensions measures (table feed)
wrong-nulls dimensions measures feed none =
    wrong-table dimensions measures feed (and_left _ _ (and_left _ _ (and_right _ _ (sym (ap is_some none)))))

pub wrong-columns : (dimensions measures : List (List ℕ)) (feed : Members) → None ≡ columns_value feed
    → None ≡ columns_of_feed dimensions measures (table feed)
wrong-columns dimensions measures feed none =
    wrong-table dimensions measures feed (and_left _ _ (and_right _ _ (sym (ap is_some none))))

pub wrong-names : (dimensions measures : List (List ℕ)) (feed columns : Members) → Some columns ≡ columns_value feed
    → has_only (dimensions ++ measures) columns ≡ false → None ≡ columns_of_feed dimensions measures (table feed)
wrong-names dimensions measures feed columns is wrong =
    wrong-table dimensions measures feed (and_right _ _ (and_left _ _ (and_left _ _
    (ap (λ found. has_only (dimensions ++ measures) (unwrap_or found no_members)) (sym is) ∙ wrong))))

pub wrong-dimensions : (dimensions measures : List (List ℕ)) (feed columns : Members)
    → Some columns ≡ columns_value feed
    → list_all (λ name. is_some (dimension_column columns name)) dimensions ≡ false
    → None ≡ columns_of_feed dimensions measures (table feed)
wrong-dimensions dimensions measures feed columns is wrong =
    wrong-table dimensions measures feed (and_right _ _ (and_left _ _ (and_right _ _
    (ap (λ found. list_all (λ name. is_some (dimension_column (unwrap_or found no_members) name)) dimensions) (sym is)
    ∙ wrong))))

pub wrong-measures : (dimensions measures : List (List ℕ)) (feed columns : Members)
    → Some columns ≡ columns_value feed
    → list_all (λ name. is_some (measure_column columns name)) measures ≡ false
    → None ≡ columns_of_feed dimensions measures (table feed)
wrong-measures dimensions measures feed columns is wrong =
    wrong-table dimensions measures feed (and_right _ _ (and_right _ _
    (ap (λ found. list_all (λ name. is_some (measure_column (unwrap_or found no_members) name)) measures) (sym is)
    ∙ wrong)))

-- a table whose parts are right, by what is read of them
pub right-table : (dimensions measures : List (List ℕ)) (feed columns : Members) (nulls : List (List ℕ))
    → are_plain_keys feed ≡ true → Some columns ≡ columns_value feed
    → has_only (dimensions ++ measures) columns ≡ true → Some nulls ≡ nulls_in feed
    → list_all (λ name. is_some (dimension_column columns name)) dimensions ≡ true
    → list_all (λ name. is_some (measure_column columns name)) measures ≡ true
    → Some (record {
      id = unwrap_or (id_in feed) None;
      op = unwrap_or (op_in feed) None;
      nulls = nulls;
      delimiter = unwrap_or (delimiter_in feed) 44;
      point = unwrap_or (point_in feed) 46;
      dimensions = filter_map (dimension_column columns) dimensions;
      measures = filter_map (measure_column columns) measures;
    })
    ≡ columns_of_feed dimensions measures (table feed)
right-table dimensions measures feed columns nulls keys is names nulls_are ds ms =
    let right : is_feed_table dimensions measures feed ≡ true =
    and_from _ _ (and_from _ _ (and_from _ _ keys (sym (ap is_some nulls_are))) (sym (ap is_some is)))
    (subst (λ found. are_columns dimensions measures (unwrap_or found no_members) ≡ true) is
    (and_from _ _ (and_from _ _ names ds) ms)) in
    let as_read : FeedColumns = record {
      id = unwrap_or (id_in feed) None;
      op = unwrap_or (op_in feed) None;
      nulls = nulls;
      delimiter = unwrap_or (delimiter_in feed) 44;
      point = unwrap_or (point_in feed) 46;
      dimensions = filter_map (dimension_column columns) dimensions;
      measures = filter_map (measure_column columns) measures;
    } in
    let same : as_read ≡ feed_columns dimensions measures feed =
    (λ i. record {
      id = unwrap_or (id_in feed) None;
      op = unwrap_or (op_in feed) None;
      nulls = unwrap_or (nulls_are i) [];
      delimiter = unwrap_or (delimiter_in feed) 44;
      point = unwrap_or (point_in feed) 46;
      dimensions = filter_map (dimension_column (unwrap_or (is i) no_members)) dimensions;
      measures = filter_map (measure_column (unwrap_or (is i) no_members)) measures;
    }) in
    ap Some same
    ∙ sym (ap (λ (yes : Bool). if yes then Some (feed_columns dimensions measures feed) else None) right)
