-- The lines of JSON of a printed cube, as its bytes come.
use Rattle.std.specs.Prelude.{◌≡◌, ◌++◌, ◌∷◌, [], ℕ, List, Option, None, Some, if◌then◌else◌}
use Rattle.cube_console.specs.Json.{columns_of, json_line}
use Rattle.cube_console.specs.Records.{Reading, beginning, cleared, ends_record, read_byte}
use Rattle.cube_console.specs.declared.place.Place.TheVariants as at
use Rattle.cube_console.specs.declared.views.json.Value.{Value}

-- how far the lines have come: the columns, once the header is there, and the reading of the text
pub record Making : Type 0 where
  pub columns : Option (List (List ℕ × Value))
  pub reading : Reading

-- no byte has come
abbrev pub begun : Making
begun = record { columns = None; reading = beginning }

-- the columns behind a record: the first record is the header
abbrev pub columns_after : ℕ → Option (List (List ℕ × Value)) → List (List ℕ) → Option (List (List ℕ × Value))
columns_after d None fields = Some (columns_of d fields)
columns_after d (Some columns) fields = Some columns

-- the line of a record: the header has none
abbrev pub line_of : Option (List (List ℕ × Value)) → List (List ℕ) → List ℕ
line_of None fields = []
line_of (Some columns) fields = json_line columns fields

-- where they stand behind one more byte of the text of a cube with d dimensions
abbrev pub make_byte : ℕ → Making → ℕ → Making
make_byte d m b =
    if ends_record m.reading b
    then record {
      columns = columns_after d m.columns (read_byte m.reading b).fields;
      reading = cleared (read_byte m.reading b);
    }
    else record { columns = m.columns; reading = read_byte m.reading b }

-- and what it adds
abbrev pub made_by : Making → ℕ → List ℕ
made_by m b = if ends_record m.reading b then line_of m.columns (read_byte m.reading b).fields else []

-- the same of more bytes
abbrev pub make_bytes : ℕ → Making → List ℕ → Making
make_bytes d m [] = m
make_bytes d m (b ∷ bytes) = make_bytes d (make_byte d m b) bytes

abbrev pub made_text : ℕ → Making → List ℕ → List ℕ
made_text d m [] = []
made_text d m (b ∷ bytes) = made_by m b ++ made_text d (make_byte d m b) bytes

-- a text ends with a record, as a printed cube does: behind it the reading stands before a record
abbrev pub EndsWithRecord : ℕ → List ℕ → Type 0
EndsWithRecord d text = (make_bytes d begun text).reading.place ≡ at.Record
