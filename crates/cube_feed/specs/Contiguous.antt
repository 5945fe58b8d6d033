-- Where the bytes of a record's fields begin (this project's choice).
use Rattle.std.specs.Prelude.{◌≡◌, ◌≤◌, ℕ, length, drop}
use Rattle.csv.specs.Records.{Row, cut_from, fields_of, text_of}

-- the fields of a record from a place on are cut from its text from a byte on
abbrev pub BeginsAt : Row → ℕ → ℕ → Type 0
BeginsAt row place begin =
    (begin ≤ length (text_of row)) × (drop place (fields_of row) ≡ cut_from begin (drop place row.ends) (text_of row))
