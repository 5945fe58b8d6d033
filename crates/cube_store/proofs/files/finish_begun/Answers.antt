use Rattle.std.proofs.lemmas.Result.{IfOk-weaker, IfErr-weaker}
use Rattle.cube_store.proofs.FileLaws as laws
use Rattle.cube_store.proofs.files.finish_begun.Goals as goal

pub returns-in-Ok-true-clause-begun : goal.returns-in-Ok-true-clause-begun
returns-in-Ok-true-clause-begun g c =
    IfOk-weaker c.finish.result _ _
    (λ it honest clean blank. c.in-Ok-true.ensures.ok (honest clean) c.in-Ok-true.field-0-test blank)
    c.finish.ensures.honest

pub returns-in-Ok-true-clause-honest : goal.returns-in-Ok-true-clause-honest
returns-in-Ok-true-clause-honest g c =
    let now = c.were_begun.new.files in
    let was = c.args.files in
    IfOk-weaker c.finish.result _ _ (λ it honest clean. laws.was_clean now.log now.db was.log was.db
    c.were_begun.ensures.log c.were_begun.ensures.db (honest clean)) c.finish.ensures.honest

pub returns-in-Ok-true-clause-falls : goal.returns-in-Ok-true-clause-falls
returns-in-Ok-true-clause-falls g c =
    let now = c.were_begun.new.files in
    let was = c.args.files in
    IfErr-weaker c.finish.result _ _ (λ e falls clean. laws.was_clean now.log now.db was.log was.db
    c.were_begun.ensures.log c.were_begun.ensures.db (falls clean)) c.finish.ensures.falls
