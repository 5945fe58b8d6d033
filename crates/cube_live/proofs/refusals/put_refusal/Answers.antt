use Rattle.std.specs.Prelude.{[], ◌∷◌, decimal}
use Rattle.std.proofs.lemmas.Result.{on_ok_weaker}
use Rattle.cube_text.proofs.LineLaws.{AddsText-row_text}
use Rattle.cube_live.proofs.refusals.put_refusal.Goals as goal

pub returns : goal.returns
returns c =
    let refusal = c.args.refusal.now in
    let code = rw c.from.ensures at c.in_ok-put_number-3.ensures in
    on_ok_weaker c.end_line.result
    (AddsText-row_text (decimal c.args.source ∷ []) (decimal refusal.number ∷ []) (decimal refusal.code ∷ [])
    _ _ _ _ c.end_line.new.lines c.in_ok-put_number.ensures c.in_ok-put_number-2.ensures code)
    c.end_line.ensures
