-- How changes, and the notes on feeds, stand as the rows of a store's tables.
use Rattle.std.specs.Prelude.{◌≡◌, ◌≤◌, ℕ, ◌+◌, pos, List, [], ◌∷◌, ◌++◌, map, length, replicate}
use Rattle.std.specs.Prelude.{Option, Some, None}
use Rattle.std.specs.Int.{w64, to_be_bytes}
use Rattle.std.specs.List.{AllByRecursion}
use Rattle.sqlite_value.specs.declared.value.Value.{Value}
use Rattle.sqlite_value.specs.declared.value.Value.TheVariants.{Null, Int, Blob}
use Rattle.sqlite_value.specs.Order.{Row, column, bytes}
use Rattle.sha2.specs.Sha256.{sha256}
use Rattle.cube_store.specs.declared.note.FeedNote.{FeedNote}
use Rattle.cube_store.specs.declared.form.RowForm.{RowForm}
use Rattle.cube_store.specs.declared.form.RowForm.TheVariants.{Plain, Chained}

-- What a row says beside its number: the source of a change and the bytes of its record, or the
-- length of a feed and its digest (this project's choice).
abbrev pub Entry : Type 0
Entry = ℕ × List ℕ

-- The row with this number: the column that is the table's INTEGER PRIMARY KEY is stored as NULL
-- (SQLite's "Database File Format").
abbrev pub row_of : ℕ → Entry → Row
row_of number entry = Int (pos number) ∷ Null ∷ Int (pos entry.0) ∷ Blob entry.1 ∷ []

-- The rows of a list, numbered without a gap from this number on (this project's choice).
abbrev pub rows_from : ℕ → List Entry → List Row
rows_from number [] = []
rows_from number (entry ∷ entries) = row_of number entry ∷ rows_from (number + 1) entries

-- A value as a natural number, 0 where it is none (this project's choice).
abbrev pub natural_in : Value → ℕ
natural_in (Int (pos n)) = n
natural_in other = 0

-- What a row says, whatever its number is (this project's choice).
abbrev pub entry_in : Row → Entry
entry_in row = (natural_in (column row 2), bytes (column row 3))

-- What the rows of a table say, in their order (this project's choice).
abbrev pub entries_in : List Row → List Entry
entries_in rows = map entry_in rows

-- A change is one of the sources 1 to 64 (this project's choice).
abbrev pub IsOfSource : Entry → Type 0
IsOfSource entry = (1 ≤ entry.0) × (entry.0 ≤ 64)

-- What the first row of a table is chained to: 32 zero bytes (this project's choice).
abbrev pub no_digest : List ℕ
no_digest = replicate 32 0

-- The digest of the row of a change with this number, behind a row with that digest: SHA-256 (FIPS
-- 180-4) of that digest, the number and the source in 8 bytes each, the highest first, and the
-- record (this project's choice).
abbrev pub digest_of : List ℕ → ℕ → Entry → List ℕ
digest_of before number change =
    sha256 (((before ++ to_be_bytes w64 number) ++ to_be_bytes w64 change.0) ++ change.1)

-- What the next row is chained to: without digests it stays (this project's choice).
abbrev pub next_digest : RowForm → List ℕ → ℕ → Entry → List ℕ
next_digest Plain before number change = before
next_digest Chained before number change = digest_of before number change

-- The row of a change with this number, which ends in this digest if it has one
-- (this project's choice).
abbrev pub change_row : RowForm → List ℕ → ℕ → Entry → Row
change_row Plain digest number change = row_of number change
change_row Chained digest number change = row_of number change ++ Blob digest ∷ []

-- The rows of changes, numbered without a gap from this number on, each chained to the one before
-- it, and the first to a row with this digest (this project's choice).
abbrev pub rows_after : RowForm → List ℕ → ℕ → List Entry → List Row
rows_after form before number [] = []
rows_after form before number (change ∷ changes) =
    change_row form (next_digest form before number change) number change
    ∷ rows_after form (next_digest form before number change) (number + 1) changes

-- What the row behind these is chained to (this project's choice).
abbrev pub digest_after : RowForm → List ℕ → ℕ → List Entry → List ℕ
digest_after form before number [] = before
digest_after form before number (change ∷ changes) =
    digest_after form (next_digest form before number change) (number + 1) changes

-- The rows of a table of changes, numbered from 1 on (this project's choice).
abbrev pub change_rows : RowForm → List Entry → List Row
change_rows form changes = rows_after form no_digest 1 changes

-- What the row behind all changes of a table is chained to (this project's choice).
abbrev pub last_digest : RowForm → List Entry → List ℕ
last_digest form changes = digest_after form no_digest 1 changes

-- The row is that of this change with this number, whatever its digest says
-- (this project's choice).
abbrev pub IsRowOf : RowForm → ℕ → Entry → Row → Type 0
IsRowOf Plain number change row = row ≡ row_of number change
IsRowOf Chained number change row = (last : Value) × (row ≡ row_of number change ++ last ∷ [])

-- The rows are those of so many changes, with right digests if they have any
-- (this project's choice).
pub record AreChanges (form : RowForm) (rows : List Row) (count : ℕ) : Type 0 where
  pub rows_are : rows ≡ change_rows form (entries_in rows)
  pub sources : AllByRecursion IsOfSource (entries_in rows)
  pub count_is : length rows ≡ count

-- What a note says: how long its feed is, and its digest (this project's choice).
abbrev pub entry_of : FeedNote → Entry
entry_of note = (note.length, note.digest)

-- What notes say, in the order of their sources (this project's choice).
abbrev pub entries_of : List FeedNote → List Entry
entries_of notes = map entry_of notes

-- The rows of notes, numbered from 0 on, are what these say (this project's choice).
abbrev pub AreNotes : List Row → List Entry → Type 0
AreNotes rows notes = rows ≡ rows_from 0 notes

-- The first element of a list, if it has one (this project's choice).
abbrev pub first : List Row → Option Row
first [] = None
first (row ∷ rows) = Some row

-- Two lists of rows are the same before a place and not at it (this project's choice).
pub record DifferAt (some others : List Row) (place : ℕ) : Type 0 where
  pub same : List Row
  pub some_left : List Row
  pub others_left : List Row
  pub some_are : some ≡ same ++ some_left
  pub others_are : others ≡ same ++ others_left
  pub place_is : length same ≡ place
  pub apart : first some_left ≡ first others_left → ⊥

-- The rows before this one are those of changes, with right digests if they have any
-- (this project's choice).
pub record IsRowAt (form : RowForm) (rows : List Row) (number : ℕ) (before : List Entry)
    (row : Row) : Type 0 where
  pub left : List Row
  pub rows_are : rows ≡ change_rows form before ++ row ∷ left
  pub place_is : length before + 1 ≡ number

-- The rows before this one are those of changes, and this one isn't the next
-- (this project's choice).
pub record IsForeignAt (form : RowForm) (rows : List Row) (number : ℕ) : Type 0 where
  pub before : List Entry
  pub row : Row
  pub stands : IsRowAt form rows number before row
  pub foreign : (change : Entry) → IsOfSource change → IsRowOf form number change row → ⊥

-- The rows before this one are those of changes, and this one is the next,
-- but its digest isn't the one that chains it to them (this project's choice).
pub record IsUnchainedAt (form : RowForm) (rows : List Row) (number : ℕ) : Type 0 where
  pub before : List Entry
  pub row : Row
  pub change : Entry
  pub stands : IsRowAt form rows number before row
  pub source : IsOfSource change
  pub next : IsRowOf form number change row
  pub unchained : row ≡ change_row form (next_digest form (last_digest form before) number change)
      number change → ⊥
