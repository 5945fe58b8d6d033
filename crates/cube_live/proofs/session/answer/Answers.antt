use Rattle.std.proofs.Common.{◌≡◌, ℕ, List, ◌++◌, length, refl, sym, ◌∙◌}
use Rattle.std.proofs.lemmas.Result.{err_from_is_err_and, IfOk-weaker, IfErr-weaker}
use Rattle.cube_core.specs.Arrival.{Arrivals, of_sources}
use Rattle.cube_core.specs.Layout.{Layout}
use Rattle.cube_live.specs.Shows.{Shows}
use Rattle.cube_live.specs.declared.request.Question.{Question}
use Rattle.cube_live.specs.declared.request.Request.TheVariants as request
use Rattle.cube_live.specs.Keeping.{EndsIn, made_sure}
use Rattle.cube_live.specs.Session.{IsReply, ok_line}
use Rattle.cube_live.proofs.KeepingLaws as laws
use Rattle.cube_live.proofs.ServingLaws.{BreaksReply-writes}
use Rattle.cube_live.proofs.session.answer.Goals as goal

-- a line that counts a text, and the text, reply to the question that it shows
IsReply-shown : (s : Layout) (arrivals : Arrivals) (question : Question) (line text shown : List ℕ) (count : ℕ)
    → line ≡ ok_line count → count ≡ length shown → shown ≡ text → Shows question s (of_sources 64 arrivals) text
    → IsReply s arrivals (request.Ask question) (line ++ shown)
IsReply-shown s arrivals question line text shown count is counted same shows =
    (text, shows, rw (is, counted, same) refl)

pub returns-clause-ok : goal.returns-clause-ok
returns-clause-ok g c = IfOk-weaker c.write_reply.result _ _ (λ total wrote arrivals stands. record {
  reply = c.deref.result.now ++ c.deref-2.result.now;
  is_reply = IsReply-shown c.args.live.now.schema arrivals c.args.question.now c.deref.result.now
      c.in_ok-text.text.items c.deref-2.result.now c.len.result (c.deref.ensures.value ∙ c.in_ok-line.ensures)
      (c.len.ensures ∙ sym c.deref-2.ensures.len) c.deref-2.ensures.value (c.in_ok-text.ensures.text arrivals stands);
  written = wrote.1;
  counted = wrote.0;
}) c.write_reply.ensures.ok

pub returns-clause-err : goal.returns-clause-err
returns-clause-err g c = IfErr-weaker c.write_reply.result _ _ (λ fault none arrivals stands.
    BreaksReply-writes c.args.live.now.schema arrivals (request.Ask c.args.question.now)
    (c.deref.result.now ++ c.deref-2.result.now) c.args.sent fault (g.W.Write.contents c.args.out.now)
    (g.W.Write.contents c.write_reply.new.out)
    (IsReply-shown c.args.live.now.schema arrivals c.args.question.now c.deref.result.now
    c.in_ok-text.text.items c.deref-2.result.now c.len.result (c.deref.ensures.value ∙ c.in_ok-line.ensures)
    (c.len.ensures ∙ sym c.deref-2.ensures.len) c.deref-2.ensures.value
    (c.in_ok-text.ensures.text arrivals stands)) none) c.write_reply.ensures.err

pub returns-in_err-settle-clause-err_kept : goal.returns-in_err-settle-clause-err_kept
returns-in_err-settle-clause-err_kept g c =
    let p = err_from_is_err_and c.from_residual.result c.from_residual.ensures.1 in
    rw (p.1, p.2) (laws.EndsIn-unsettled g.J.Journal.keeps g.J.Journal.breaks c.in_err-settle.field-0.0
    c.args.journal.now c.settle.new.journal c.in_err-settle.ensures.fault c.in_err-settle.ensures.err_kept)

pub returns-clause-kept : goal.returns-clause-kept
returns-clause-kept g c = laws.OnOk-always c.write_reply.result c.in_ok-settle.ensures.kept

pub returns-clause-err_kept : goal.returns-clause-err_kept
returns-clause-err_kept g c = laws.IfErr-always c.write_reply.result
    (λ fault. EndsIn g.J.Journal.keeps g.J.Journal.breaks fault c.args.journal.now made_sure c.settle.new.journal)
    (λ fault. laws.EndsIn-taken g.J.Journal.keeps g.J.Journal.breaks fault c.args.journal.now made_sure
    c.settle.new.journal c.in_ok-settle.ensures.kept)
