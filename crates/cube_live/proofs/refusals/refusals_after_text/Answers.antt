use Rattle.std.proofs.Common.{[]}
use Rattle.std.proofs.lemmas.Result.{IfOk-weaker}
use Rattle.cube_live.specs.Shows.{text_after}
use Rattle.cube_live.proofs.refusals.refusals_after_text.Goals as goal

pub returns : goal.returns
returns c =
    let header = c.in_ok-put_refusal_header.ensures [] c.no_lines-lines.ensures in
    let all = c.in_ok-put_refusals_after.ensures _ header in
    IfOk-weaker c.into_text.result _ _
    (λ bytes holds. holds (text_after c.args.source c.args.number c.args.refusals.now) all) c.into_text.ensures
