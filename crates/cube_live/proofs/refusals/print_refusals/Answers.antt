use Rattle.std.proofs.Common.{[]}
use Rattle.std.proofs.lemmas.Result.{IfOk-weaker}
use Rattle.cube_core.specs.Text.{text_of_refusals}
use Rattle.cube_live.proofs.RefusalLaws.{refusals_of_accounts}
use Rattle.cube_live.proofs.refusals.print_refusals.Goals as goal

pub returns : goal.returns
returns c =
    let header = c.in_ok-put_refusal_header.ensures [] c.no_lines-lines.ensures in
    let all = c.in_ok-put_all_refusals.ensures _ header in
    IfOk-weaker c.into_text.result _ _
    (λ bytes holds. holds (text_of_refusals (refusals_of_accounts c.args.ledger.now.accounts)) all) c.into_text.ensures
