use Rattle.std.proofs.Common.{ap, ◌∙◌}
use Rattle.cube_core.specs.Text.{text_of_refusals}
use Rattle.cube_tool.proofs.AnsweringLaws.{Writes-weaker}
use Rattle.cube_tool.proofs.answers.write_refusals.Goals as goal

pub returns : goal.returns
returns g c =
    Writes-weaker c.write_refused.result _ _ (λ text is. is ∙ ap text_of_refusals c.refused_of.ensures)
    c.write_refused.ensures
