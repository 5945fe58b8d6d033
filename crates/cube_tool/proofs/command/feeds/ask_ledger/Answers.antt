use Rattle.std.proofs.Common.{◌≡◌, ◌∙◌, ap, refl}
use Rattle.std.specs.Prelude.{IfOk, IfErr}
use Rattle.std.proofs.lemmas.Result.{err_from_is_err_and}
use Rattle.cube_ledger.specs.Interest.{ledger_of_interest}
use Rattle.cube_ledger.specs.Ledger.{LedgerView}
use Rattle.cube_tool.proofs.RunLaws.{over-kept}
use Rattle.cube_tool.proofs.command.feeds.ask_ledger.Given.{Over}
use Rattle.cube_tool.proofs.command.feeds.ask_ledger.Goals.{In_ok-taken}
use Rattle.cube_tool.proofs.command.feeds.ask_ledger.Goals as goal
use Rattle.cube_tool.specs.Answering.{AnswersOn, FailsOn}

-- what was taken has the facts of interest
kept : (g : Over) (c : In_ok-taken g)
    → c.in_ok-taken.taken.ledger ≡ ledger_of_interest c.args.terms.now.conditions.items c.args.ledger
kept g c = rw (← c.as_slice-conditions.ensures.value) c.in_ok-taken.ensures.ledger

-- and it is of the schema
schema : (g : Over) (c : In_ok-taken g) → c.in_ok-taken.taken.ledger.schema ≡ c.args.schema.now
schema g c = ap (λ (l : LedgerView). l.schema) c.in_ok-taken.ensures.ledger ∙ c.requires.schema

pub answer_on_taken-requires-clause-question : goal.answer_on_taken-requires-clause-question
answer_on_taken-requires-clause-question g c κs within =
    rw (ap (λ (l : LedgerView). l.schema) c.in_ok-taken.ensures.ledger ∙ c.requires.schema) c.requires.question

pub returns-in_err-taken-clause-err : goal.returns-in_err-taken-clause-err
returns-in_err-taken-clause-err g c =
    let p = err_from_is_err_and c.from_residual.result c.from_residual.ensures.1 in
    rw (p.1, p.2, c.in_err-taken.ensures.full) refl

pub returns-clause-ok : goal.returns-clause-ok
returns-clause-ok g c =
    let at = (goal.at.returns-clause-ok g c).In_ok-taken in
    over-kept c.args.terms.now.conditions.items c.args.ledger c.in_ok-taken.taken.ledger (kept g at)
    (λ f r. IfOk c.answer_on_taken.result (λ status. AnswersOn c.args.terms.now c.args.question.now
    c.args.schema.now f r status (g.W.Write.contents c.args.out.now) (g.W.Write.contents c.answer_on_taken.new.out)))
    (rw (schema g at) at c.answer_on_taken.ensures.ok)

pub returns-clause-err : goal.returns-clause-err
returns-clause-err g c =
    let at = (goal.at.returns-clause-err g c).In_ok-taken in
    over-kept c.args.terms.now.conditions.items c.args.ledger c.in_ok-taken.taken.ledger (kept g at)
    (λ f r. IfErr c.answer_on_taken.result (λ failure. FailsOn c.args.terms.now c.args.question.now
    c.args.schema.now f r failure (g.W.Write.contents c.args.out.now) (g.W.Write.contents c.answer_on_taken.new.out)))
    (rw (schema g at) at c.answer_on_taken.ensures.err)
