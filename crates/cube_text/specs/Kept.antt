-- The text of pieces of rows, of which some is made (this project's choice).
use Rattle.std.specs.Prelude.{◌≡◌, ◌+◌, ◌<◌, ◌≤◌, ◌++◌, ℕ, List, drop, length, Option, Result, Ok, Err}
use Rattle.std.specs.Global.{Vec}
use Rattle.std.specs.Io.KnownBytes.{Appends}
use Rattle.cube_cells.specs.Codes.{Dictionaries}
use Rattle.cube_lines.specs.Pieces.{SendsPart, text_of_pieces}
use Rattle.cube_lines.specs.declared.write.WriteFault.{WriteFault}
use Rattle.cube_text.specs.Brief.{Brief, brief_text, rows_of}
use Rattle.cube_text.specs.Shown.{AreShown}
use Rattle.cube_text.specs.declared.shown.Shown.{Shown}

-- the lines of the rows of pieces
abbrev pub lines_of : Dictionaries → List Brief → List ℕ
lines_of dictionaries pieces = brief_text dictionaries (rows_of pieces)

-- these are texts of the first of some pieces, of one at least where there is one:
-- with the lines of the pieces behind them they are the lines of all
pub record AreNextTexts (dictionaries : Dictionaries) (shown : List Shown) (pieces : List Brief) (texts : List (Vec ℕ))
    : Type 0 where
  pub some : 0 < length pieces → 0 < length texts
  pub within : length texts ≤ length pieces
  pub text_is : AreShown dictionaries shown
      → lines_of dictionaries pieces ≡ text_of_pieces texts ++ lines_of dictionaries (drop (length texts) pieces)

-- what writing a text comes to behind so many bytes that had gone out before: it went out whole, and this is how many bytes
-- went out in all, or its first bytes did, as the fault says
abbrev pub SendsTexts : ℕ → List ℕ → Result ℕ WriteFault → Option (List ℕ) → Option (List ℕ) → Type 0
SendsTexts before text (Ok sent) old new = (sent ≡ before + length text) × Appends old new text
SendsTexts before text (Err fault) old new = SendsPart before text fault.sent old new
