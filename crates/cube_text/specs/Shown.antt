-- What rows show of texts, kept for all rows (this project's choice).
use Rattle.std.specs.Prelude.{◌≡◌, ◌<◌, ℕ, List, [], length, get_or}
use Rattle.std.specs.Global.{Vec}
use Rattle.cube_cells.specs.Codes.{Dictionaries}
use Rattle.cube_lines.specs.Parts.{part}
use Rattle.cube_text.specs.declared.shown.Shown.{Shown}

-- this is what rows show of texts, each with a comma
pub record IsShown (texts : List (List ℕ)) (shown : Shown) : Type 0 where
  pub each : (code : ℕ) (unused : Vec ℕ) → code < length shown.parts.items
      → (get_or shown.parts.items code unused).items ≡ part (get_or texts code [])

-- the same of the texts of each dimension
pub record AreShown (dictionaries : Dictionaries) (shown : List Shown) : Type 0 where
  pub each : (dimension : ℕ) (unused : Shown) → dimension < length shown
      → IsShown (get_or dictionaries dimension []) (get_or shown dimension unused)
