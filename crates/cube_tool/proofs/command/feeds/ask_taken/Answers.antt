use Rattle.std.proofs.Common.{◌≡◌, ◌∙◌, ap, map, refl, subst}
use Rattle.std.proofs.lemmas.Result.{err_from_is_err_and}
use Rattle.cube_core.specs.Layout.{Layout}
use Rattle.cube_ledger.specs.Ledger.{LedgerView, all_facts}
use Rattle.cube_live.proofs.RefusalLaws.{refusals_of_accounts}
use Rattle.cube_build.specs.Taken.{TakenStandsWhere, TakesWhere}
use Rattle.cube_tool.specs.Answering.{AnswersOn, FailsOn}
use Rattle.cube_tool.proofs.AnsweringLaws.{FailsOnTerms-feeding, FailsOnTerms-kept}
use Rattle.cube_tool.proofs.RunLaws.{OfFeeds-weaker, OfFeeds-where, keeps-taken}
use Rattle.cube_tool.proofs.command.feeds.ask_taken.Given.{Over}
use Rattle.cube_tool.proofs.command.feeds.ask_taken.Goals.{In_ok-status, In_ok-taken}
use Rattle.cube_tool.proofs.command.feeds.ask_taken.Goals as goal

-- the feeds were taken on the terms
takes : (g : Over) (c : In_ok-taken g) → TakesWhere c.args.schema.now c.args.terms.now.conditions.items
    (map g.R.Read.remaining c.args.readers.items) c.in_ok-taken.taken
takes g c = rw c.as_slice-conditions.ensures.value at c.in_ok-taken.ensures.ok

-- under the schema
schema : (g : Over) (c : In_ok-taken g) → c.in_ok-taken.taken.ledger.schema ≡ c.args.schema.now
schema g c = ap (λ (l : LedgerView). l.schema) (takes g c).stands.kept ∙ (takes g c).stands.schema

pub answer_on_taken-requires-clause-question : goal.answer_on_taken-requires-clause-question
answer_on_taken-requires-clause-question g c κs within =
    rw (schema g (goal.at.answer_on_taken-requires-clause-question g c).In_ok-taken) c.requires.question

pub returns-in_err-taken-clause-err : goal.returns-in_err-taken-clause-err
returns-in_err-taken-clause-err g c =
    let p = err_from_is_err_and c.from_residual.result c.from_residual.ensures.1 in
    rw (p.1, p.2) (FailsOnTerms-feeding c.args.terms.now c.args.question.now _ _ c.in_err-taken.field-0.0 _ _ refl
    c.in_err-taken.ensures.err)

pub returns-in_err-status-clause-err : goal.returns-in_err-status-clause-err
returns-in_err-status-clause-err g c =
    let p = err_from_is_err_and c.from_residual-in_err-status.result c.from_residual-in_err-status.ensures.1 in
    let at = (goal.at.returns-in_err-status-clause-err g c).In_ok-taken in
    let ledger = c.in_ok-taken.taken.ledger in
    rw (p.1, p.2) (FailsOnTerms-kept c.args.terms.now c.args.question.now _ _ _ (keeps-taken (takes g at))
    (subst (λ (s : Layout). FailsOn c.args.terms.now c.args.question.now s (all_facts ledger.accounts)
    (refusals_of_accounts ledger.accounts) c.in_err-status.field-0.0 (g.W.Write.contents c.args.out.now)
    (g.W.Write.contents c.answer_on_taken.new.out)) (schema g at) c.in_err-status.ensures.err))

-- the answer is one under the schema
answers : (g : Over) (c : In_ok-status g) → AnswersOn c.args.terms.now c.args.question.now
    c.args.schema.now (all_facts c.in_ok-taken.taken.ledger.accounts)
    (refusals_of_accounts c.in_ok-taken.taken.ledger.accounts) c.in_ok-status.status
    (g.W.Write.contents c.args.out.now) (g.W.Write.contents c.answer_on_taken.new.out)
answers g c =
    let at = (goal.at.In_ok-status g c).In_ok-taken in
    let ledger = c.in_ok-taken.taken.ledger in
    subst (λ (s : Layout). AnswersOn c.args.terms.now c.args.question.now s (all_facts ledger.accounts)
    (refusals_of_accounts ledger.accounts) c.in_ok-status.status (g.W.Write.contents c.args.out.now)
    (g.W.Write.contents c.answer_on_taken.new.out)) (schema g at) c.in_ok-status.ensures.ok

pub returns-clause-ok : goal.returns-clause-ok
returns-clause-ok g c =
    let at = goal.at.returns-clause-ok g c in
    let taken = takes g at.In_ok-taken in
    OfFeeds-weaker (λ feeds held. (held.0, held.1, held.2, held.3, (c.requires.one, held.4)))
    (OfFeeds-where c.args.terms.now (keeps-taken taken)
    (λ n. TakenStandsWhere c.args.schema.now c.args.terms.now.conditions.items n c.in_ok-taken.taken) taken.stands
    (answers g at.In_ok-status))

pub returns-clause-asked : goal.returns-clause-asked
returns-clause-asked g c = (answers g (goal.at.returns-clause-asked g c).In_ok-status).asked
