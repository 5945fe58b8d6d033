use Rattle.std.specs.Prelude.{[], ◌∷◌, codes}
use Rattle.std.proofs.lemmas.Result.{on_ok_weaker}
use Rattle.cube_text.proofs.LineLaws.{AddsText-row_text}
use Rattle.cube_live.proofs.refusals.put_refusal_header.Goals as goal

pub returns : goal.returns
returns c =
    on_ok_weaker c.end_line.result
    (AddsText-row_text (codes "source" ∷ []) (codes "record" ∷ []) (codes "code" ∷ [])
    _ _ _ _ c.end_line.new.lines c.in_ok-put_field.ensures c.in_ok-put_field-2.ensures c.in_ok-put_field-3.ensures)
    c.end_line.ensures
