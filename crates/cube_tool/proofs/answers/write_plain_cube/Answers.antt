use Rattle.std.proofs.Common.{◌≡◌, ◌∙◌, refl, subst}
use Rattle.std.proofs.lemmas.Result.{err_from_is_err_and}
use Rattle.cube_core.specs.Cube.{AreRows}
use Rattle.cube_core.specs.Layout.{Layout}
use Rattle.cube_ledger.specs.Ledger.{all_facts}
use Rattle.cube_tool.proofs.AnsweringLaws.{Writes-weaker}
use Rattle.cube_live.proofs.RowLaws.{AreRows-HasFacts}
use Rattle.cube_tool.proofs.answers.write_plain_cube.Goals as goal

pub returns-in_err-cells : goal.returns-in_err-cells
returns-in_err-cells g c =
    let p = err_from_is_err_and c.from_residual.result c.from_residual.ensures.1 in
    rw (p.1, p.2) refl

pub returns-in_err-text : goal.returns-in_err-text
returns-in_err-text g c =
    let p = err_from_is_err_and c.from_residual-in_err-text.result c.from_residual-in_err-text.ensures.1 in
    rw (p.1, p.2) refl

pub returns : goal.returns
returns g c =
    let ledger = c.args.builder.now.ledger in
    let facts = all_facts ledger.accounts in
    let printed = c.in_ok-text.ensures in
    let sets : c.cube.result.now.sets ≡ ledger.schema.grouping_sets =
    rw (c.cube.ensures.cube, c.requires.schema) c.requires.sets in
    let are : AreRows ledger.schema facts printed.rows =
    AreRows-HasFacts ledger.schema c.cube.result.now facts printed.rows c.cube.ensures.schema sets c.cube.ensures.has
    (c.in_ok-cells.ensures.cube printed.rows printed.are_rows _ c.cube.ensures.has.counts.cells) in
    Writes-weaker c.write_text.result _ _
    (λ text is. record {
      rows = printed.rows;
      are_rows = subst (λ (l : Layout). AreRows l facts printed.rows) c.requires.schema are;
      text_is = is ∙ c.deref.ensures.value ∙ printed.text_is;
    }) c.write_text.ensures
