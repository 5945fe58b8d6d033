-- How far the code has read a text of CSV.
use Rattle.std.specs.Prelude.{◌≡◌, [], ℕ}
use Rattle.csv.specs.Records.{fields_of, partial_of}
use Rattle.cube_console.specs.Records.{Reading, read_byte}
use Rattle.cube_console.specs.declared.views.records.Records.{Records}

-- no bytes lie behind the fields of the record
abbrev pub IsWhole : Records → Type 0
IsWhole r = partial_of r.row ≡ []

-- how far it has come
abbrev pub reading_of : Records → Reading
reading_of r = record { place = r.place; fields = fields_of r.row; field = r.field.items }

-- a byte was read
pub record Reads (old new : Records) (b : ℕ) : Type 0 where
  pub whole : IsWhole new
  pub reading : reading_of new ≡ read_byte (reading_of old) b
