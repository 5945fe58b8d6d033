-- How far the code has made lines of JSON.
use Rattle.std.specs.Prelude.{◌≡◌, ◌++◌, [], ℕ, List, Option, map, option_map}
use Rattle.cube_console.specs.JsonColumns.{seen}
use Rattle.cube_console.specs.JsonLines.{Making, begun, made_text, make_bytes}
use Rattle.cube_console.specs.RecordsRead.{IsWhole, reading_of}
use Rattle.cube_console.specs.declared.views.json.Value.{Value}
use Rattle.cube_console.specs.declared.views.lines.JsonLines.{JsonLines}

-- the columns, once the header is there
abbrev pub columns_in : JsonLines → Option (List (List ℕ × Value))
columns_in lines = option_map (λ columns. map seen columns.items) lines.columns

-- how far it has come
abbrev pub making_of : JsonLines → Making
making_of lines = record { columns = columns_in lines; reading = reading_of lines.records }

-- lines of a cube with d dimensions of which no byte has come
pub record Begins (d : ℕ) (lines : JsonLines) : Type 0 where
  pub dimensions : lines.dimensions ≡ d
  pub whole : IsWhole lines.records
  pub making : making_of lines ≡ begun
  pub ready : lines.ready.items ≡ []

-- the bytes were taken, and the lines that they make are ready
pub record Makes (old new : JsonLines) (bytes : List ℕ) : Type 0 where
  pub dimensions : new.dimensions ≡ old.dimensions
  pub whole : IsWhole new.records
  pub making : making_of new ≡ make_bytes old.dimensions (making_of old) bytes
  pub ready : new.ready.items ≡ old.ready.items ++ made_text old.dimensions (making_of old) bytes
