-- The shards of feeds: of each feed the records whose id is in the shard (this project's choice).
use Rattle.std.specs.Prelude.{ℕ, Bool, false, List, [], get_or}
use Rattle.std.specs.List.{range_with_len}
use Rattle.std.specs.Option.{option_map_or}
use Rattle.cube_core.specs.FeedRecords.{found_columns, is_read, plain_of}
use Rattle.cube_core.specs.Layout.{Layout}
use Rattle.cube_core.specs.declared.feed_columns.FoundColumns.{FoundColumns}

-- a schema of a shard among so many
abbrev pub of_shard : ℕ → Layout → ℕ → Layout
of_shard count s place = record s { shard = record { place = place; count = count } }

-- the places of the shards among so many
abbrev pub places : ℕ → List ℕ
places count = range_with_len 0 count

-- whether the data record of this number is in the shard of a schema, by the columns that its header names
abbrev pub is_record_read : Layout → FoundColumns → List (List (List ℕ)) → ℕ → Bool
is_record_read s columns records number = is_read s (plain_of s columns number (get_or records number []))

-- the same, where the first record is the header
abbrev pub has_record : Layout → List (List (List ℕ)) → ℕ → Bool
has_record s records number =
    option_map_or (λ (columns : FoundColumns). is_record_read s columns records number)
    (found_columns s (get_or records 0 [])) false
