-- The records of a text with commas,
-- as `csv` reads them with its default delimiter and quotes (RFC 4180; blank lines are no records).
use Rattle.std.specs.Prelude.{ℕ, List}
use Rattle.csv.specs.Reading.{default_config, records, strip_bom}

-- the records of a whole text, each a list of fields; one byte order mark at its start is left out
abbrev pub records_of : List ℕ → List (List (List ℕ))
records_of bytes = records default_config (strip_bom bytes)
