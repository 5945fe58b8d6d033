use Rattle.std.proofs.Common.{refl, ◌∙◌}
use Rattle.std.proofs.lemmas.Result.{err_from_is_err_and}
use Rattle.cube_tool.proofs.AnsweringLaws.{Writes-weaker}
use Rattle.cube_tool.proofs.answers.write_refused.Goals as goal

pub returns-in_err-text : goal.returns-in_err-text
returns-in_err-text g c =
    let p = err_from_is_err_and c.from_residual.result c.from_residual.ensures.1 in
    rw (p.1, p.2) refl

pub returns : goal.returns
returns g c =
    Writes-weaker c.write_text.result _ _ (λ text is. is ∙ c.deref.ensures.value ∙ c.in_ok-text.ensures)
    c.write_text.ensures
