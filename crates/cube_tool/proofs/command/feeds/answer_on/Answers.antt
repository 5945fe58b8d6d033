use Rattle.std.proofs.Common.{refl}
use Rattle.std.proofs.lemmas.Result.{err_from_is_err_and}
use Rattle.cube_build.specs.Parts.{facts_of_run}
use Rattle.cube_tool.specs.Answering.{MayAnswer, MayAnswerOn, refusals_of_run}
use Rattle.cube_tool.proofs.AnsweringLaws.{FailsOn-Answers, FailsOn-cells, FailsOn-first}
use Rattle.cube_tool.proofs.command.feeds.answer_on.Given.{Over}
use Rattle.cube_tool.proofs.command.feeds.answer_on.Goals.{In_ok-refuse_built, In_ok-refuse_none}
use Rattle.cube_tool.proofs.command.feeds.answer_on.Goals as goal

-- no line was refused, where none may be
unrefused : (g : Over) (c : In_ok-refuse_none g)
    → MayAnswer c.args.terms.now.is_strict (refusals_of_run c.args.built.now)
unrefused g c = rw c.refused_of.ensures at c.in_ok-refuse_none.ensures.may

-- and there are no more cells than there may be
may : (g : Over) (c : In_ok-refuse_built g) → MayAnswerOn c.args.terms.now c.args.schema.now
    (facts_of_run c.args.built.now) (refusals_of_run c.args.built.now)
may g c = (
  unrefused g (goal.at.In_ok-refuse_built g c).In_ok-refuse_none,
  rw c.requires.schema at c.in_ok-refuse_built.ensures.within,
)

pub returns-in_err-refuse_built-clause-err : goal.returns-in_err-refuse_built-clause-err
returns-in_err-refuse_built-clause-err g c =
    let p =
    err_from_is_err_and c.from_residual-in_err-refuse_built.result c.from_residual-in_err-refuse_built.ensures.1 in
    rw (p.1, p.2) (FailsOn-cells c.args.terms.now c.args.question.now c.args.schema.now (facts_of_run c.args.built.now)
    (refusals_of_run c.args.built.now) c.in_err-refuse_built.field-0.0 (g.W.Write.contents c.args.out.now)
    (g.W.Write.contents c.args.out.now) refl
    (unrefused g (goal.at.returns-in_err-refuse_built-clause-err g c).In_ok-refuse_none)
    (rw c.requires.schema at c.in_err-refuse_built.ensures.beyond))

pub returns-in_err-refuse_none-clause-err : goal.returns-in_err-refuse_none-clause-err
returns-in_err-refuse_none-clause-err g c =
    let p = err_from_is_err_and c.from_residual.result c.from_residual.ensures.1 in
    rw (p.1, p.2) (FailsOn-first c.args.terms.now c.args.question.now c.args.schema.now (facts_of_run c.args.built.now)
    (refusals_of_run c.args.built.now) c.in_err-refuse_none.field-0.0 (g.W.Write.contents c.args.out.now)
    (g.W.Write.contents c.args.out.now) refl (rw c.refused_of.ensures at c.in_err-refuse_none.ensures.first))

pub returns-in_err-answer-clause-err : goal.returns-in_err-answer-clause-err
returns-in_err-answer-clause-err g c =
    let p = err_from_is_err_and c.from_residual-in_err-answer.result c.from_residual-in_err-answer.ensures.1 in
    rw (p.1, p.2) (FailsOn-Answers c.args.terms.now c.args.question.now c.args.schema.now
    (facts_of_run c.args.built.now) (refusals_of_run c.args.built.now) c.in_err-answer.field-0.0
    (g.W.Write.contents c.args.out.now) (g.W.Write.contents c.answer.new.out)
    (may g (goal.at.returns-in_err-answer-clause-err g c).In_ok-refuse_built) c.in_err-answer.ensures)

pub returns-clause-ok : goal.returns-clause-ok
returns-clause-ok g c = record {
  wrote = c.in_ok-answer.ensures.0;
  asked = c.in_ok-answer.ensures.1;
  status_is = c.status_of_run.ensures;
  may = may g (goal.at.returns-clause-ok g c).In_ok-refuse_built;
}
