use Rattle.std.proofs.Common.{◌≡◌, ◌++◌, map, take}
use Rattle.cube_core.specs.Text.{coord_text}
use Rattle.cube_cells.specs.Codes.{key_at}
use Rattle.cube_lines.specs.Parts.{parts}
use Rattle.cube_text.specs.Shown.{AreShown}
use Rattle.cube_text.proofs.walked.put_key_of.Given as goal

abbrev pub invariant-loop-dimension : goal.invariant-loop-dimension
invariant-loop-dimension g l = AreShown l.cells.dictionaries l.shown
    → l.text.items ≡ l.initial.text.items
    ++ parts (map coord_text (take l.dimension (key_at l.cells.dictionaries l.codes.codes).coords))
