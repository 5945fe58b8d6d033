use Rattle.std.proofs.Common.{◌∙◌, refl, subst}
use Rattle.std.proofs.lemmas.Result.{err_from_is_err_and}
use Rattle.cube_core.specs.Cube.{AreRows}
use Rattle.cube_core.specs.Layout.{Layout}
use Rattle.cube_build.specs.Parts.{facts_of_run}
use Rattle.cube_tool.proofs.AnsweringLaws.{Writes-weaker}
use Rattle.cube_tool.proofs.answers.write_cube.Goals as goal

pub returns-in_err-cells : goal.returns-in_err-cells
returns-in_err-cells g c =
    let p = err_from_is_err_and c.from_residual.result c.from_residual.ensures.1 in
    rw (p.1, p.2) refl

pub returns-in_err-text : goal.returns-in_err-text
returns-in_err-text g c =
    let p = err_from_is_err_and c.from_residual-in_err-text.result c.from_residual-in_err-text.ensures.1 in
    rw (p.1, p.2) refl

pub returns : goal.returns
returns g c =
    let facts = facts_of_run c.args.built.now in
    let printed = c.in_ok-text.ensures in
    Writes-weaker c.write_text.result _ _
    (λ text is. record {
      rows = printed.rows;
      are_rows = subst (λ (l : Layout). AreRows l facts printed.rows) c.requires
          (c.in_ok-cells.ensures printed.rows printed.are_rows);
      text_is = is ∙ c.deref.ensures.value ∙ printed.text_is;
    }) c.write_text.ensures
