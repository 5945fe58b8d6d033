use Rattle.std.proofs.Common.{◌≡◌, ◌<◌, ◌+◌, ◌-◌, ℕ, get_or, length, ap, arith, rules, sym, ◌∙◌}
use Rattle.cube_ledger.specs.Ledger.{new_account}
use Rattle.cube_tool.proofs.RefusalLaws.{status_after-none, status_after-some}
use Rattle.cube_tool.proofs.command.status.status_after.Goals as goal

pub returns-then-not-is_empty : goal.returns-then-not-is_empty
returns-then-not-is_empty c =
    let accounts = c.args.ledger.now.accounts in
    let place = c.loop-place.place in
    let back : place + 1 - 1 ≡ place = omega arith in
    let here : c.refusals.result.now ≡ (get_or accounts place new_account).refusals =
    c.refusals.ensures ∙ ap (λ (n : ℕ). (get_or accounts n new_account).refusals) back in
    let some : 0 < length c.refusals.result.now = search rules in
    sym (status_after-some accounts place (search rules) (rw here at some))

pub loop-place-preserved : goal.loop-place-preserved
loop-place-preserved c =
    let accounts = c.args.ledger.now.accounts in
    let place = c.loop-place.place in
    let back : place + 1 - 1 ≡ place = omega arith in
    let here : c.refusals.result.now ≡ (get_or accounts place new_account).refusals =
    c.refusals.ensures ∙ ap (λ (n : ℕ). (get_or accounts n new_account).refusals) back in
    let none : length c.refusals.result.now ≡ 0 = search rules in
    status_after-none accounts place (search rules) (rw here at none) c.loop-place.invariant
