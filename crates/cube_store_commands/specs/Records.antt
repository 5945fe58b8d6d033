-- How a session's change stands in a store, and what a stored change says.
use Rattle.std.specs.Prelude.{◌≡◌, ◌==◌, false, ℕ, List, [], ◌∷◌, ◌++◌, map, if◌then◌else◌}
use Rattle.csv.specs.Writing.{default_writer, is_blank, row_body}
use Rattle.cube_core.specs.Records.{records_of}
use Rattle.cube_store.specs.Rows.{Entry}
use Rattle.cube_live.specs.Keeping.{Noted}

-- the text of a record as csv's writer writes it, without its line end (RFC 4180)
abbrev pub record_text : List (List ℕ) → List ℕ
record_text fields = row_body default_writer fields ++ (if is_blank default_writer fields then 34 ∷ 34 ∷ [] else [])

-- a change as it is stored: its source, and the text of its record (this project's choice)
abbrev pub stored_as : Noted → Entry
stored_as noted = (noted.0, record_text noted.1)

-- the changes of a session as they are stored (this project's choice)
abbrev pub stored_all : List Noted → List Entry
stored_all told = map stored_as told

-- the first of a text's records, no field where it has none
abbrev pub first_of : List (List (List ℕ)) → List (List ℕ)
first_of [] = []
first_of (fields ∷ records) = fields

-- the fields of the record in a stored text, to which its line end is put (this project's choice)
abbrev pub fields_in : List ℕ → List (List ℕ)
fields_in text = first_of (records_of (text ++ 10 ∷ []))

-- a record reads back from its text, where its first field begins with no byte of a byte order mark,
-- as none does that names a source (this project's choice)
abbrev pub ReadsBack : List (List ℕ) → List ℕ → Type 0
ReadsBack fields text = (b : ℕ) → (more : List ℕ) → (others : List (List ℕ)) → fields ≡ (b ∷ more) ∷ others
    → (b == 0xEF) ≡ false → fields_in text ≡ fields
