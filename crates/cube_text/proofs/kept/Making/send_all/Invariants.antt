use Rattle.std.proofs.Common.{◌++◌, length}
use Rattle.cube_lines.specs.Pieces.{text_of_pieces}
use Rattle.cube_text.specs.Kept.{lines_of}
use Rattle.cube_text.proofs.KeptLaws.{HasSent}
use Rattle.cube_text.proofs.kept.Making.send_all.Given as goal

abbrev pub invariant-loop-texts : goal.invariant-loop-texts
invariant-loop-texts g l =
    HasSent (text_of_pieces l.fn.made.items ++ lines_of l.self.cells.now.dictionaries l.fn.kept.items)
    (lines_of l.self.cells.now.dictionaries l.pieces.items) l.texts.items l.sent
    (g.W.Write.contents l.initial.out) (g.W.Write.contents l.out)

abbrev pub decreases-loop-texts : goal.decreases-loop-texts
decreases-loop-texts g l = length l.pieces.items
