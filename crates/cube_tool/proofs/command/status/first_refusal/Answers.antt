use Rattle.std.proofs.Common.{◌≡◌, ◌+◌, ◌-◌, ◌∙◌, ℕ, List, ap, arith, get_or, rules, sym}
use Rattle.std.specs.Prelude.{None, Some, slice_get}
use Rattle.cube_core.specs.declared.change.Refusal.{Refusal}
use Rattle.cube_ledger.specs.Ledger.{new_account}
use Rattle.cube_tool.proofs.RefusalLaws.{first_refusal-none, first_refusal-some}
use Rattle.cube_tool.proofs.command.status.first_refusal.Goals as goal

pub returns-in-Some : goal.returns-in-Some
returns-in-Some c =
    let accounts = c.args.ledger.now.accounts in
    let place = c.loop-place.place in
    let back : place + 1 - 1 ≡ place = omega arith in
    let here : c.refusals.result.now ≡ (get_or accounts place new_account).refusals =
    c.refusals.ensures ∙ ap (λ (n : ℕ). (get_or accounts n new_account).refusals) back in
    let some : slice_get (get_or accounts place new_account).refusals 0 ≡ Some c.in-Some.refusal.now =
    ap (λ (all : List Refusal). slice_get all 0) (sym here) ∙ sym c.in-Some.ensures.value in
    let after : 1 + place ≡ place + 1 = omega arith in
    sym (first_refusal-some 1 accounts place c.in-Some.refusal.now (search rules) some c.loop-place.invariant
    ∙ ap (λ (n : ℕ). Some (n, c.in-Some.refusal.now)) after)

pub loop-place-preserved : goal.loop-place-preserved
loop-place-preserved c =
    let accounts = c.args.ledger.now.accounts in
    let place = c.loop-place.place in
    let back : place + 1 - 1 ≡ place = omega arith in
    let here : c.refusals.result.now ≡ (get_or accounts place new_account).refusals =
    c.refusals.ensures ∙ ap (λ (n : ℕ). (get_or accounts n new_account).refusals) back in
    let none : slice_get (get_or accounts place new_account).refusals 0 ≡ None =
    ap (λ (all : List Refusal). slice_get all 0) (sym here) ∙ sym c.in_default.ensures.value in
    first_refusal-none 1 accounts place (search rules) none c.loop-place.invariant
