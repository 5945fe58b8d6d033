-- The items of a feed:
-- what its records say, one after another, after the header (this project's choice of a change feed).
use Rattle.std.specs.Prelude.{◌≡◌, ◌==◌, ◌+◌, ◌&&◌, ◌||◌, nat_lt, ℕ, Bool, true, false, List, [], ◌∷◌, ◌++◌, length}
use Rattle.std.specs.Prelude.{map, filter, Option, Some, None, option_map, unwrap_or, is_some, Result, if◌then◌else◌}
use Rattle.std.specs.Str.{bytes_eq}
use Rattle.std.specs.List.{list_all, position}
use Rattle.std.specs.Option.{option_map_or}
use Rattle.csv.specs.Machine.{step}
use Rattle.csv.specs.Reading.{default_config, records, strip_bom}
use Rattle.csv.specs.declared.parser.Config.{Config}
use Rattle.csv.specs.declared.parser.State.{State}
use Rattle.csv.specs.declared.parser.State.TheVariants as state
use Rattle.cube_core.specs.Items.{field_at, change_of, is_header}
use Rattle.cube_core.specs.Layout.{Layout}
use Rattle.cube_core.specs.Plain.{delimiter_of, plain_in_order, plain_by_name}
use Rattle.cube_core.specs.RecordBound.{is_exceeded, mark_length, up_to_excess}
use Rattle.cube_core.specs.Shard.{is_in_shard}
use Rattle.cube_core.specs.declared.change.Change.{Change}
use Rattle.cube_core.specs.declared.change.LineFault.{LineFault}
use Rattle.cube_core.specs.declared.change.Item.{Item}
use Rattle.cube_core.specs.declared.feed_columns.Column.{Column}
use Rattle.cube_core.specs.declared.feed_columns.FeedColumns.{FeedColumns}
use Rattle.cube_core.specs.declared.feed_columns.ColumnPlaces.{ColumnPlaces}
use Rattle.cube_core.specs.declared.feed_columns.FoundColumns.{FoundColumns}
use Rattle.cube_core.specs.declared.feed_columns.FoundColumns.TheVariants.{InOrder, ByName}

-- how the text of a feed is read whose fields stand apart by this byte
abbrev pub config_by : ℕ → Config
config_by delimiter = record default_config { delimiter = delimiter }

-- what is read of a feed's bytes: all, one byte order mark at their start left out, or up to the first one that is too
-- many in its record; the mark counts for the first record
abbrev pub text_read : Layout → List ℕ → List ℕ
text_read s bytes = option_map_or (λ most.
    if nat_lt most (mark_length bytes) then []
    else up_to_excess (config_by (delimiter_of s)) most state.StartRecord (mark_length bytes) (strip_bom bytes))
    s.max_record_bytes (strip_bom bytes)

-- whether a record of a feed's bytes has more of them before its line end than a record may have
abbrev pub has_long_record : Layout → List ℕ → Bool
has_long_record s bytes = option_map_or (λ most.
    nat_lt most (mark_length bytes)
    || is_exceeded (config_by (delimiter_of s)) most state.StartRecord (mark_length bytes) (strip_bom bytes))
    s.max_record_bytes false

-- all records of what is read of a feed's bytes under a schema, as `csv` reads them with its default quotes (RFC 4180;
-- blank lines are no records), each a list of fields
abbrev pub all_records : Layout → List ℕ → List (List (List ℕ))
all_records s bytes = records (config_by (delimiter_of s)) (text_read s bytes)

-- where `csv` stands after bytes that it reads from a state on
abbrev pub state_after : Config → State → List ℕ → State
state_after config at [] = at
state_after config at (byte ∷ bytes) = state_after config (step config at byte).0 bytes

-- whether it stands within quotes
abbrev pub is_within_quotes : State → Bool
is_within_quotes state.InQuoted = true
is_within_quotes state.StartRecord = false
is_within_quotes state.StartField = false
is_within_quotes state.InField = false
is_within_quotes state.AfterQuote = false
is_within_quotes state.InEscape = false
is_within_quotes state.InComment = false
is_within_quotes state.AfterCr = false

-- whether the bytes of a feed whose columns are known by name end within a quoted field; its last record isn't whole then
abbrev pub ends_in_quotes : Layout → List ℕ → Bool
ends_in_quotes s bytes =
    is_some s.columns
    && is_within_quotes (state_after (config_by (delimiter_of s)) state.StartRecord (strip_bom bytes))

-- all of a list but the last
abbrev pub but_the_last : {A : Type 0} → List A → List A
but_the_last [] = []
but_the_last (_ ∷ []) = []
but_the_last (x ∷ y ∷ rest) = x ∷ but_the_last (y ∷ rest)

-- how what is read of a feed's bytes ends: with a whole record, if any, within a quoted field, or in a record with too
-- many bytes
pub data TextEnd : Type 0 where
  Whole : TextEnd
  InQuotes : TextEnd
  InLongRecord : TextEnd

-- a record with too many bytes goes before quotes, within which it may be
abbrev pub text_end : Layout → List ℕ → TextEnd
text_end s bytes =
    if has_long_record s bytes then InLongRecord else if ends_in_quotes s bytes then InQuotes else Whole

-- the whole records among all, by how the text ends
abbrev pub whole_records : TextEnd → List (List (List ℕ)) → List (List (List ℕ))
whole_records Whole records = records
whole_records InQuotes records = but_the_last records
whole_records InLongRecord records = but_the_last records

-- the whole records of a feed's bytes
abbrev pub feed_records : Layout → List ℕ → List (List (List ℕ))
feed_records s bytes = whole_records (text_end s bytes) (all_records s bytes)

-- whether a name stands in a header exactly once
abbrev pub stands_once : List (List ℕ) → List ℕ → Bool
stands_once header name = length (filter (bytes_eq name) header) == 1

-- where a name stands first in a header
abbrev pub place_in : List (List ℕ) → List ℕ → ℕ
place_in header name = unwrap_or (position (bytes_eq name) header) 0

-- the names of the columns that a feed is read by
abbrev pub names_read : FeedColumns → List (List ℕ)
names_read columns =
    option_map_or (λ name. name ∷ []) columns.op []
    ++ option_map_or (λ name. name ∷ []) columns.id []
    ++ map (λ (column : Column). column.name) columns.dimensions
    ++ columns.measures

-- where columns stand, by a header
abbrev pub places_by : FeedColumns → List (List ℕ) → ColumnPlaces
places_by columns header = record {
  width = length header;
  op = option_map (place_in header) columns.op;
  id = option_map (place_in header) columns.id;
  dimensions =
      map (λ (column : Column). record { place = place_in header column.name; first = column.first })
      columns.dimensions;
  measures = map (place_in header) columns.measures;
}

-- the columns that a first record names: by their names, where each that is read by stands in it once;
-- in the order of the schema, where they aren't known by name and it is the header
abbrev pub found_columns : Layout → List (List ℕ) → Option FoundColumns
found_columns s header = option_map_or (λ (columns : FeedColumns).
    if list_all (stands_once header) (names_read columns) then Some (ByName (places_by columns header)) else None)
    s.columns (if is_header s header then Some InOrder else None)

-- the plain record that the data record of a number stands for
abbrev pub plain_of : Layout → FoundColumns → ℕ → List (List ℕ) → List (List ℕ)
plain_of s InOrder number fields = plain_in_order s fields
plain_of s (ByName places) number fields = plain_by_name s places number fields

-- how a feed ends: well, at a first record that isn't the header, at a data record too many, within a quoted field of
-- the data record of this number, 0 for the header, or at one of this number that has too many bytes
pub data FeedEnd : Type 0 where
  Good : FeedEnd
  WrongHeader : FeedEnd
  TooManyRecords : FeedEnd
  WithinQuotes : ℕ → FeedEnd
  RecordTooLong : ℕ → FeedEnd

-- what comes of a feed: its items, and its end, as one tells ends
pub record RestOfFeed (End : Type 0) : Type 0 where
  pub items : List Item
  pub end : End

-- an item before what comes after it
abbrev pub item_then : {End : Type 0} → Item → RestOfFeed End → RestOfFeed End
item_then item rest = record { items = item ∷ rest.items; end = rest.end }

-- whether a plain record is in the schema's shard: its id decides, whatever its faults, the empty text where it has
-- none
abbrev pub is_read : Layout → List (List ℕ) → Bool
is_read s fields = is_in_shard s.shard (field_at fields 1)

-- the change that a record in the order of the schema spells, or its first fault
abbrev pub change_in_order : Layout → List (List ℕ) → Result Change LineFault
change_in_order s fields = change_of s (plain_in_order s fields)

-- what data records give after so many of them: an item each that is in the shard, up to the schema's number of records
abbrev pub items_after : Layout → FoundColumns → ℕ → List (List (List ℕ)) → RestOfFeed FeedEnd
items_after s columns number [] = record { items = []; end = Good }
items_after s columns number (fields ∷ records) = let plain = plain_of s columns (number + 1) fields in
    if nat_lt number s.max_records then (
    if is_read s plain
    then item_then (record { number = number + 1; what = change_of s plain })
    (items_after s columns (number + 1) records)
    else items_after s columns (number + 1) records
    )
    else record { items = []; end = TooManyRecords }

-- what the records of a feed give:
-- nothing where there is none, and only after a right header an item for each data record of the shard
abbrev pub items_of : Layout → List (List (List ℕ)) → RestOfFeed FeedEnd
items_of s [] = record { items = []; end = Good }
items_of s (header ∷ records) = option_map_or (λ (columns : FoundColumns). items_after s columns 0 records)
    (found_columns s header) (record { items = []; end = WrongHeader })

-- how a feed ends whose text ends in the record of this number, so, by the end of its whole records: their fault goes
-- before, and so does that it is a record too many
abbrev pub end_in_record : Layout → (ℕ → FeedEnd) → ℕ → FeedEnd → FeedEnd
end_in_record s so number Good = if nat_lt s.max_records number then TooManyRecords else so number
end_in_record s so number WrongHeader = WrongHeader
end_in_record s so number TooManyRecords = TooManyRecords
end_in_record s so number (WithinQuotes other) = WithinQuotes other
end_in_record s so number (RecordTooLong other) = RecordTooLong other

-- how a feed ends, by how its text ends, in which record, and by the end of its whole records
abbrev pub feed_end : Layout → TextEnd → ℕ → FeedEnd → FeedEnd
feed_end s Whole number end = end
feed_end s InQuotes number end = end_in_record s WithinQuotes number end
feed_end s InLongRecord number end = end_in_record s RecordTooLong number end

-- what comes of a feed, by how its text ends, and in which record, and by what its whole records give
abbrev pub ends_as : Layout → TextEnd → ℕ → RestOfFeed FeedEnd → RestOfFeed FeedEnd
ends_as s end number rest = record { items = rest.items; end = feed_end s end number rest.end }

-- what comes of a feed: the items of its whole records, and its end
abbrev pub feed_of : Layout → List ℕ → RestOfFeed FeedEnd
feed_of s bytes =
    ends_as s (text_end s bytes) (length (feed_records s bytes)) (items_of s (feed_records s bytes))

-- whole records are good where there is none, or the right header and at most the schema's number of data records
abbrev pub IsGoodFeed : Layout → List (List (List ℕ)) → Type 0
IsGoodFeed s records = (items_of s records).end ≡ Good
