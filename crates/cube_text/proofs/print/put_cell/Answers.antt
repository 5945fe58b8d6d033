use Rattle.std.proofs.Common.{◌≡◌, ◌++◌, ℕ, List, length, map, ap, sym}
use Rattle.std.proofs.lemmas.Result.{on_ok_weaker}
use Rattle.cube_core.specs.Text.{coord_text, grouping_text, answer_texts}
use Rattle.cube_core.specs.declared.key.Key.{Key}
use Rattle.cube_cells.specs.Tally.{Tally}
use Rattle.cube_text.specs.Rows.{answers_at}
use Rattle.cube_text.proofs.FieldLaws.{parts-three}
use Rattle.cube_text.proofs.print.put_cell.Goals as goal

pub returns : goal.returns
returns c =
    let key = c.cell_at-cell.result.0 in
    let answers = answers_at c.args.columns.now c.args.at in
    let a = map coord_text key.coords in
    let b = map grouping_text key.coords in
    let start : length c.args.text.now.items ≡ length c.as_slice-start.result.now =
    ap (λ (t : List ℕ). length t) (sym c.as_slice-start.ensures.value) in
    let texts = answer_texts c.args.digits.now answers in
    let all = parts-three a b texts _ _ _ _ c.in_ok-put_key.ensures c.in_ok-put_key_groupings.ensures
    c.in_ok-put_answers_at.ensures in
    on_ok_weaker c.close_line.result (λ ended unused. record {
      row = record { key = key; answers = answers };
      is_row = record {
        key = ap (λ (cell : Key × Tally). cell.0) (c.cell_at-cell.ensures.cell unused);
        answers = c.requires.answers unused;
      };
      added = ended c.args.text.now.items (a ++ b ++ texts) start all;
    }) c.close_line.ensures
