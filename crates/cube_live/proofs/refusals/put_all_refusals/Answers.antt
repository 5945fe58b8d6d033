use Rattle.std.proofs.Common.{◌≡◌, ◌+◌, ◌-◌, ℕ, List, get_or, ap, arith, rules, subst, sym, ◌∙◌}
use Rattle.std.specs.List.{flat_map}
use Rattle.cube_core.specs.Text.{refusal_line}
use Rattle.cube_core.specs.declared.change.Refusal.{Refusal}
use Rattle.cube_ledger.specs.Ledger.{new_account}
use Rattle.cube_text.specs.Lines.{AddsText}
use Rattle.cube_live.proofs.RefusalLaws.{AddsText-both, lines_up_to, lines_up_to-more}
use Rattle.cube_live.proofs.refusals.put_all_refusals.Goals as goal

pub loop-place-preserved : goal.loop-place-preserved
loop-place-preserved c =
    let accounts = c.args.ledger.now.accounts in
    let place = c.loop-place.place in
    let back : place + 1 - 1 ≡ place = omega arith in
    let here : c.refusals.result.now ≡ (get_or accounts place new_account).refusals =
    c.refusals.ensures ∙ ap (λ (n : ℕ). (get_or accounts n new_account).refusals) back in
    let added = subst
    (λ (l : List Refusal). AddsText (flat_map (refusal_line (place + 1)) l) c.loop-place.lines c.put_refusals.new.lines)
    here c.in_ok-put_refusals.ensures in
    subst (λ (l : List ℕ). AddsText l c.args.lines.now c.put_refusals.new.lines)
    (sym (lines_up_to-more accounts place (search rules)))
    (AddsText-both (lines_up_to accounts place)
    (flat_map (refusal_line (place + 1)) (get_or accounts place new_account).refusals)
    c.args.lines.now c.loop-place.lines c.put_refusals.new.lines c.loop-place.invariant added)
