-- The lines of refusals of sources one after another.
use Rattle.std.proofs.Common.{◌≡◌, ◌<◌, ◌+◌, ◌-◌, ℕ, List, [], ◌∷◌, ◌++◌, length, get_or, map, ap, ◌∙◌, subst, arith}
use Rattle.std.proofs.Common.{append_assoc}
use Rattle.std.specs.List.{flat_map, range_with_len}
use Rattle.std.proofs.lemmas.Grind.{flat_map-append}
use Rattle.std.proofs.lemmas.List.{append-nil, get_or-map}
use Rattle.cube_core.proofs.SetLaws.{range_with_len-more}
use Rattle.cube_core.specs.Text.{lines_of_source, refusal_line}
use Rattle.cube_core.specs.declared.change.Refusal.{Refusal}
use Rattle.cube_ledger.specs.Ledger.{AccountView, new_account}
use Rattle.cube_text.specs.Lines.{Lines, AddsText, HoldsLine}

-- the refusals of each account
abbrev pub refusals_of_accounts : List AccountView → List (List Refusal)
refusals_of_accounts accounts = map (λ account. account.refusals) accounts

-- the lines of the sources up to a place
abbrev pub lines_up_to : List AccountView → ℕ → List ℕ
lines_up_to accounts place = flat_map (lines_of_source (refusals_of_accounts accounts)) (range_with_len 1 place)

-- text added, and then more
pub AddsText-both : (first second : List ℕ) (old mid new : Lines) → AddsText first old mid → AddsText second mid new
    → AddsText (first ++ second) old new
AddsText-both first second old mid new before after text holds =
    subst (λ t. HoldsLine t [] new) (append_assoc text first second) (after (text ++ first) (before text holds))

-- one source more
pub lines_up_to-more : (accounts : List AccountView) (place : ℕ) → place < length accounts
    → lines_up_to accounts (place + 1)
    ≡ lines_up_to accounts place ++ flat_map (refusal_line (place + 1)) (get_or accounts place new_account).refusals
lines_up_to-more accounts place below =
    let of_source = lines_of_source (refusals_of_accounts accounts) in
    let here : get_or (refusals_of_accounts accounts) (place + 1 - 1) []
    ≡ (get_or accounts place new_account).refusals =
    ap (λ n. get_or (refusals_of_accounts accounts) n []) (omega arith)
    ∙ get_or-map (λ (account : AccountView). account.refusals) accounts place new_account [] below in
    ap (flat_map of_source) (range_with_len-more 1 place ∙ ap (λ n. range_with_len 1 place ++ n ∷ []) (omega arith))
    ∙ flat_map-append of_source (range_with_len 1 place) ((place + 1) ∷ [])
    ∙ ap (λ l. lines_up_to accounts place ++ l)
    (append-nil (of_source (place + 1)) ∙ ap (flat_map (refusal_line (place + 1))) here)
