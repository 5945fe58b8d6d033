use Rattle.std.proofs.Common.{◌≡◌, ◌++◌, take}
use Rattle.cube_text.specs.Brief.{brief_text, rows_of}
use Rattle.cube_text.specs.Shown.{AreShown}
use Rattle.cube_text.proofs.walked.put_pieces.Given as goal

abbrev pub invariant-loop-rows : goal.invariant-loop-rows
invariant-loop-rows g l = AreShown l.cells.dictionaries l.shown
    → l.text.items ≡ l.initial.text.items ++ brief_text l.cells.dictionaries (rows_of (take l.rows-index l.pieces))
