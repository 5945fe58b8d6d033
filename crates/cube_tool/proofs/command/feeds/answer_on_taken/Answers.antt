use Rattle.std.proofs.Common.{◌∙◌, ap, refl}
use Rattle.std.proofs.lemmas.Result.{err_from_is_err_and}
use Rattle.cube_ledger.specs.Ledger.{all_facts}
use Rattle.cube_live.proofs.RefusalLaws.{refusals_of_accounts}
use Rattle.cube_tool.specs.Command.{status_after}
use Rattle.cube_tool.specs.Answering.{MayAnswer, MayAnswerOn}
use Rattle.cube_tool.proofs.AnsweringLaws.{FailsOn-Answers, FailsOn-cells, FailsOn-first}
use Rattle.cube_tool.proofs.command.feeds.answer_on_taken.Given.{Over}
use Rattle.cube_tool.proofs.command.feeds.answer_on_taken.Goals.{In_ok-refuse_none, In_ok-refuse_taken}
use Rattle.cube_tool.proofs.command.feeds.answer_on_taken.Goals as goal

-- none of its lines was refused, where none may be
unrefused : (g : Over) (c : In_ok-refuse_none g)
    → MayAnswer c.args.terms.now.is_strict (refusals_of_accounts c.args.taken.now.ledger.accounts)
unrefused g c = rw c.refused.ensures.refusals at c.in_ok-refuse_none.ensures.may

-- and its cube has no more cells than it may have
may : (g : Over) (c : In_ok-refuse_taken g) → MayAnswerOn c.args.terms.now c.args.taken.now.ledger.schema
    (all_facts c.args.taken.now.ledger.accounts) (refusals_of_accounts c.args.taken.now.ledger.accounts)
may g c = (
  unrefused g (goal.at.In_ok-refuse_taken g c).In_ok-refuse_none,
  c.in_ok-refuse_taken.ensures.within,
)

pub returns-in_err-refuse_taken-clause-err : goal.returns-in_err-refuse_taken-clause-err
returns-in_err-refuse_taken-clause-err g c =
    let p =
    err_from_is_err_and c.from_residual-in_err-refuse_taken.result c.from_residual-in_err-refuse_taken.ensures.1 in
    let ledger = c.args.taken.now.ledger in
    rw (p.1, p.2) (FailsOn-cells c.args.terms.now c.args.question.now ledger.schema (all_facts ledger.accounts)
    (refusals_of_accounts ledger.accounts) c.in_err-refuse_taken.field-0.0 (g.W.Write.contents c.args.out.now)
    (g.W.Write.contents c.args.out.now) refl
    (unrefused g (goal.at.returns-in_err-refuse_taken-clause-err g c).In_ok-refuse_none)
    c.in_err-refuse_taken.ensures.beyond)

pub returns-in_err-refuse_none-clause-err : goal.returns-in_err-refuse_none-clause-err
returns-in_err-refuse_none-clause-err g c =
    let p = err_from_is_err_and c.from_residual.result c.from_residual.ensures.1 in
    let ledger = c.args.taken.now.ledger in
    rw (p.1, p.2) (FailsOn-first c.args.terms.now c.args.question.now ledger.schema (all_facts ledger.accounts)
    (refusals_of_accounts ledger.accounts) c.in_err-refuse_none.field-0.0 (g.W.Write.contents c.args.out.now)
    (g.W.Write.contents c.args.out.now) refl (rw c.refused.ensures.refusals at c.in_err-refuse_none.ensures.first))

pub returns-in_err-answer_taken-clause-err : goal.returns-in_err-answer_taken-clause-err
returns-in_err-answer_taken-clause-err g c =
    let p =
    err_from_is_err_and c.from_residual-in_err-answer_taken.result c.from_residual-in_err-answer_taken.ensures.1 in
    let ledger = c.args.taken.now.ledger in
    rw (p.1, p.2) (FailsOn-Answers c.args.terms.now c.args.question.now ledger.schema (all_facts ledger.accounts)
    (refusals_of_accounts ledger.accounts) c.in_err-answer_taken.field-0.0 (g.W.Write.contents c.args.out.now)
    (g.W.Write.contents c.answer_taken.new.out)
    (may g (goal.at.returns-in_err-answer_taken-clause-err g c).In_ok-refuse_taken)
    c.in_err-answer_taken.ensures)

pub returns-clause-ok : goal.returns-clause-ok
returns-clause-ok g c = record {
  wrote = c.in_ok-answer_taken.ensures.0;
  asked = c.in_ok-answer_taken.ensures.1;
  status_is = c.status_after.ensures ∙ ap status_after c.refused-2.ensures.refusals;
  may = may g (goal.at.returns-clause-ok g c).In_ok-refuse_taken;
}
