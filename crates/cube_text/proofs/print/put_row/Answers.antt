use Rattle.std.proofs.Common.{◌≡◌, ◌++◌, ℕ, List, length, map, ap, sym}
use Rattle.std.proofs.lemmas.Result.{on_ok_weaker}
use Rattle.cube_core.specs.Text.{coord_text, grouping_text, answer_texts}
use Rattle.cube_text.proofs.FieldLaws.{parts-three}
use Rattle.cube_text.proofs.print.put_row.Goals as goal

pub returns : goal.returns
returns c =
    let row = c.args.row.now in
    let a = map coord_text row.key.coords in
    let b = map grouping_text row.key.coords in
    let start : length c.args.text.now.items ≡ length c.as_slice-start.result.now =
    ap (λ (t : List ℕ). length t) (sym c.as_slice-start.ensures.value) in
    let texts = answer_texts c.args.digits.now row.answers in
    let first = rw c.as_slice-coords.ensures at c.in_ok-put_coords.ensures in
    let second = rw c.as_slice-coords.ensures at c.in_ok-put_groupings.ensures in
    let third = rw c.as_slice.ensures at c.in_ok-put_answers.ensures in
    let all = parts-three a b texts _ _ _ _ first second third in
    on_ok_weaker c.close_line.result
    (λ ended. ended c.args.text.now.items (a ++ b ++ texts) start all) c.close_line.ensures
