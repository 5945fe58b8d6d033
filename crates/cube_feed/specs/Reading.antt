-- What a reader of records has left, and what taking one does (this project's choice).
use Rattle.std.specs.Prelude.{◌+◌, length, ◌≡◌, ⊤, ℕ, Bool, true, false, List, [], ◌∷◌, Option, Some, None, option_map, if◌then◌else◌}
use Rattle.csv.specs.Reading.{source_of, reader_config, reader_trim, is_flexible, names_headers, reader_state}
use Rattle.csv.specs.Reading.{has_failed, Ready, records, records_from, strip_bom}
use Rattle.csv.specs.declared.parser.Config.{Config}
use Rattle.csv.specs.declared.parser.State.{State}
use Rattle.csv.specs.declared.reader.Reader.{Reader}
use Rattle.csv.specs.declared.reader.Trim.TheVariants as trim
use Rattle.cube_core.specs.FeedRecords.{config_by}
use Rattle.cube_feed.specs.declared.fault.FeedFault.{FeedFault}
use Rattle.cube_feed.specs.declared.fault.FeedFault.TheVariants.{Memory, Read, Header, TooMany, OpenQuote, LongRecord}

-- the records of a whole text whose fields stand apart by this byte; one byte order mark at its start is left out
abbrev pub records_by : ℕ → List ℕ → List (List (List ℕ))
records_by delimiter bytes = records (config_by delimiter) (strip_bom bytes)

-- the records of the rest of a text, from a state of its reading
abbrev pub records_at : Config → State → List ℕ → List (List (List ℕ))
records_at config state bytes = records_from config (length bytes + 1) state bytes

-- the records that are left, where the reader tells its bytes, and the fields of the one taken last
pub record RecordsView : Type 0 where
  pub left : Option (List (List (List ℕ)))
  pub fields : List (List ℕ)

-- what a reader of records shows: the records that are left, where it tells its bytes, the fields of the one taken last,
-- and how many were taken
pub record ReaderView : Type 0 where
  pub left : Option (List (List (List ℕ)))
  pub fields : List (List ℕ)
  pub taken : ℕ

-- that without the count
abbrev pub uncounted : ReaderView → RecordsView
uncounted reader = record { left = reader.left; fields = reader.fields }

-- how many were taken, once one more was or there was none
abbrev pub taken_by : ℕ → Bool → ℕ
taken_by taken found = if found then taken + 1 else taken

-- the records that a reader of csv has left
abbrev pub left_of : {R : Type 0} → (R → Option (List ℕ)) → Reader R → Option (List (List (List ℕ)))
left_of remaining reader =
    option_map (records_at (reader_config reader) (reader_state reader)) (source_of remaining reader)

-- until it fails, the reader reads each record by itself and of any length
pub record ReadsPlainly {R : Type 0} (reader : Reader R) : Type 0 where
  pub trims : has_failed reader ≡ false → reader_trim reader ≡ trim.None
  pub flexible : has_failed reader ≡ false → is_flexible reader ≡ true
  pub names : has_failed reader ≡ false → names_headers reader ≡ false
  pub ready : has_failed reader ≡ false → Ready reader

-- the first of the records that were left was taken, or there was none
abbrev pub Advances : Option (List (List (List ℕ))) → Bool → RecordsView → Type 0
Advances None found new = ⊤
Advances (Some []) found new = found ≡ false
Advances (Some (fields ∷ rest)) found new = (found ≡ true) × (new.fields ≡ fields) × (new.left ≡ Some rest)

-- a fault of the reader or of memory
abbrev pub IsReadingFault : FeedFault → Type 0
IsReadingFault Memory = ⊤
IsReadingFault Read = ⊤
IsReadingFault Header = ⊥
IsReadingFault TooMany = ⊥
IsReadingFault (OpenQuote number) = ⊥
IsReadingFault (LongRecord number) = ⊥
