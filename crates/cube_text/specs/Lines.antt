-- What a CSV writer over memory has been given:
-- whole lines, and the fields of a line that isn't ended yet (RFC 4180's records).
use Rattle.std.specs.Prelude.{◌≡◌, ◌==◌, ◌||◌, ◌&&◌, ◌^◌, ◌-◌, not, min, ℕ, List, [], ◌++◌, length, Option, Some}
use Rattle.std.specs.Global.{Vec}
use Rattle.csv.specs.Writing.{default_writer, fields_written, has_written, is_blank, row_body, row_text, text_written}
use Rattle.csv.specs.Writing.{writer_setup}
use Rattle.csv.specs.declared.writer.Writer.{Writer}

-- a writer of lines into memory
abbrev pub Lines : Type 0
Lines = Writer (Vec ℕ)

-- the bytes that a vector holds
abbrev pub contents_of : Vec ℕ → Option (List ℕ)
contents_of bytes = Some bytes.items

-- the writer holds this text, and then these fields of a line that isn't ended
pub record HoldsLine (text : List ℕ) (fields : List (List ℕ)) (lines : Lines) : Type 0 where
  pub setup : writer_setup lines ≡ default_writer
  pub bytes : text_written contents_of lines ≡ Some (text ++ row_body default_writer fields)
  pub count : fields_written lines ≡ min (length fields) (2 ^ 64 - 1)
  pub blank : is_blank default_writer fields
      ≡ (not (has_written lines) && ((length fields == 0) || (length fields == 1)))

-- these fields were added to the line that isn't ended
abbrev pub AddsFields : List (List ℕ) → Lines → Lines → Type 0
AddsFields more old new =
    (text : List ℕ) (fields : List (List ℕ)) → HoldsLine text fields old → HoldsLine text (fields ++ more) new

-- the line was ended
abbrev pub EndsLine : Lines → Lines → Type 0
EndsLine old new = (text : List ℕ) (fields : List (List ℕ)) → HoldsLine text fields old
    → HoldsLine (text ++ row_text default_writer fields) [] new

-- this text was added, all of it ended lines
abbrev pub AddsText : List ℕ → Lines → Lines → Type 0
AddsText more old new = (text : List ℕ) → HoldsLine text [] old → HoldsLine (text ++ more) [] new
