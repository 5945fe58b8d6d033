use Rattle.std.proofs.Common.{◌≡◌, ap, get_or, length, ◌<◌, arith, ◌∙◌, ℕ}
use Rattle.std.proofs.lemmas.Result.{err_from_is_err_and}
use Rattle.std.specs.Global.{Vec}
use Rattle.cube_lines.proofs.PieceLaws.{SendsPart-piece}
use Rattle.cube_lines.proofs.write.send_pieces.Goals as goal

pub returns-in_err-sent-clause-part : goal.returns-in_err-sent-clause-part
returns-in_err-sent-clause-part g c =
    let p = err_from_is_err_and c.from_residual.result c.from_residual.ensures.1 in
    let pieces = c.args.pieces.now in
    let i = c.loop-piece.piece-index in
    let inside : i < length pieces = omega (arith, c.loop-piece-test.true) in
    let read : c.deref.result.now ≡ (get_or pieces i c.piece-item.result).items =
    c.deref.ensures.value ∙ ap (λ (v : Vec ℕ). v.items) c.piece-item.is in
    rw (p.1, p.2) (SendsPart-piece c.args.before c.loop-piece.sent _ pieces i c.piece-item.result _ _ _ inside
    c.loop-piece.invariant.0 c.loop-piece.invariant.1 (rw read at c.in_err-sent.ensures.part))
