use Rattle.std.proofs.Common.{◌≡◌, arith, length}
use Rattle.std.proofs.lemmas.Result.{IfErr-weaker, err_from_is_err_and}
use Rattle.cube_text.proofs.KeptLaws.{HasSent-more, SendsPart-HasSent}
use Rattle.cube_text.proofs.kept.Making.send_all.Goals as goal

pub returns-in_err-sent-clause-part : goal.returns-in_err-sent-clause-part
returns-in_err-sent-clause-part g c =
    let p = err_from_is_err_and c.from_residual.result c.from_residual.ensures.1 in
    rw (p.1, p.2) (SendsPart-HasSent _ _ c.loop-texts.texts.items c.loop-texts.sent _ _ _ _ c.loop-texts.invariant
    (rw (c.deref.ensures.value, c.in_err-sent.was) at c.send_and_make-next.ensures.sends))

pub loop-texts-preserved : goal.loop-texts-preserved
loop-texts-preserved g c =
    let next = c.made_or_next-texts.result.items in
    let many : c.len.result ≡ length next = omega (arith, c.len.ensures) in
    HasSent-more _ _ c.loop-texts.texts.items c.loop-texts.sent c.in_ok-sent.sent _ _ _ c.loop-texts.invariant _ next
    (rw (c.deref.ensures.value, c.in_ok-sent.was) at c.send_and_make-next.ensures.sends) (rw (c.let_go.ensures, many)
    (rw c.deref-in-loop-texts-2.ensures.value at (c.made_or_next-texts.ensures.text_is c.requires)))

pub returns-clause-part : goal.returns-clause-part
returns-clause-part g c =
    IfErr-weaker c.send_pieces.result _ _
    (λ fault part. SendsPart-HasSent _ _ c.loop-texts.texts.items c.loop-texts.sent _ _ _ _ c.loop-texts.invariant part)
    (rw c.deref-2.ensures.value at c.send_pieces.ensures.part)
