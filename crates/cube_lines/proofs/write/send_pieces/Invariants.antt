use Rattle.std.proofs.Common.{◌≡◌, ◌+◌, length, take}
use Rattle.std.specs.Io.KnownBytes.{Appends}
use Rattle.cube_lines.specs.Pieces.{text_of_pieces}
use Rattle.cube_lines.proofs.write.send_pieces.Given as goal

abbrev pub invariant-loop-piece : goal.invariant-loop-piece
invariant-loop-piece g l =
    (l.sent ≡ l.fn.before + length (text_of_pieces (take l.piece-index l.pieces)))
    × Appends (g.W.Write.contents l.initial.w) (g.W.Write.contents l.w) (text_of_pieces (take l.piece-index l.pieces))
