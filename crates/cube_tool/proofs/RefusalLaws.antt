-- Whether there are refusals of sources one after another.
use Rattle.std.proofs.Common.{◌≡◌, ◌<◌, ◌+◌, ℕ, zero, suc, List, [], ◌∷◌, length, get_or, take, refl, ap, ◌∙◌, arith}
use Rattle.std.specs.Prelude.{Some, None, slice_get}
use Rattle.cube_core.specs.declared.change.Refusal.{Refusal}
use Rattle.cube_ledger.specs.Ledger.{AccountView, new_account}
use Rattle.cube_live.proofs.RefusalLaws.{refusals_of_accounts}
use Rattle.cube_tool.specs.Answering.{first_refusal}
use Rattle.cube_tool.specs.Command.{status_after}
use Rattle.cube_tool.specs.declared.command.status.Status.TheVariants.{Done, LinesRefused}

-- the sources up to a place and one more without refusals
pub status_after-none : (accounts : List AccountView) (place : ℕ) → place < length accounts
    → length (get_or accounts place new_account).refusals ≡ 0
    → status_after (refusals_of_accounts (take place accounts)) ≡ Done
    → status_after (refusals_of_accounts (take (place + 1) accounts)) ≡ Done
status_after-none [] place below none so_far = absurd (omega arith)
status_after-none (a ∷ accounts) zero below none so_far = first a.refusals none where
  first : (refusals : List Refusal) → length refusals ≡ 0 → status_after (refusals ∷ []) ≡ Done
  first [] none = refl
  first (r ∷ refusals) none = absurd (omega (arith, none))
status_after-none (a ∷ accounts) (suc place) below none so_far =
    let later : suc place + 1 ≡ suc (place + 1) = omega arith in
    ap (λ (n : ℕ). status_after (refusals_of_accounts (take n (a ∷ accounts)))) later
    ∙ over a.refusals so_far (status_after-none accounts place (omega arith) none)
  where
    over : (refusals : List Refusal) → status_after (refusals ∷ refusals_of_accounts (take place accounts)) ≡ Done
        → (status_after (refusals_of_accounts (take place accounts)) ≡ Done
        → status_after (refusals_of_accounts (take (place + 1) accounts)) ≡ Done)
        → status_after (refusals ∷ refusals_of_accounts (take (place + 1) accounts)) ≡ Done
    over [] so_far goes_on = goes_on so_far
    over (r ∷ refusals) so_far goes_on = so_far

-- one with refusals makes the status
pub status_after-some : (accounts : List AccountView) (place : ℕ) → place < length accounts
    → 0 < length (get_or accounts place new_account).refusals
    → status_after (refusals_of_accounts accounts) ≡ LinesRefused
status_after-some [] place below some = absurd (omega arith)
status_after-some (a ∷ accounts) zero below some = first a.refusals some where
  first : (refusals : List Refusal) → 0 < length refusals
      → status_after (refusals ∷ refusals_of_accounts accounts) ≡ LinesRefused
  first [] some = absurd (omega (arith, some))
  first (r ∷ refusals) some = refl
status_after-some (a ∷ accounts) (suc place) below some =
    later a.refusals (status_after-some accounts place (omega arith) some)
  where
    later : (refusals : List Refusal) → status_after (refusals_of_accounts accounts) ≡ LinesRefused
        → status_after (refusals ∷ refusals_of_accounts accounts) ≡ LinesRefused
    later [] is = is
    later (r ∷ refusals) is = refl

-- the sources up to a place and one more have no first refusal, where that one has none
pub first_refusal-none : (source : ℕ) (accounts : List AccountView) (place : ℕ) → place < length accounts
    → slice_get (get_or accounts place new_account).refusals 0 ≡ None
    → first_refusal source (refusals_of_accounts (take place accounts)) ≡ None
    → first_refusal source (refusals_of_accounts (take (place + 1) accounts)) ≡ None
first_refusal-none source [] place below none so_far = absurd (omega arith)
first_refusal-none source (a ∷ accounts) zero below none so_far = first a.refusals none where
  first : (refusals : List Refusal) → slice_get refusals 0 ≡ None → first_refusal source (refusals ∷ []) ≡ None
  first [] none = refl
  first (r ∷ refusals) none = cc none
first_refusal-none source (a ∷ accounts) (suc place) below none so_far =
    let later : suc place + 1 ≡ suc (place + 1) = omega arith in
    ap (λ (n : ℕ). first_refusal source (refusals_of_accounts (take n (a ∷ accounts)))) later
    ∙ over a.refusals so_far (first_refusal-none (source + 1) accounts place (omega arith) none)
  where
    over : (refusals : List Refusal)
        → first_refusal source (refusals ∷ refusals_of_accounts (take place accounts)) ≡ None
        → (first_refusal (source + 1) (refusals_of_accounts (take place accounts)) ≡ None
        → first_refusal (source + 1) (refusals_of_accounts (take (place + 1) accounts)) ≡ None)
        → first_refusal source (refusals ∷ refusals_of_accounts (take (place + 1) accounts)) ≡ None
    over [] so_far goes_on = goes_on so_far
    over (r ∷ refusals) so_far goes_on = cc so_far

-- and that one's is the first of all, where it has one and they have none
pub first_refusal-some : (source : ℕ) (accounts : List AccountView) (place : ℕ) (refusal : Refusal)
    → place < length accounts
    → slice_get (get_or accounts place new_account).refusals 0 ≡ Some refusal
    → first_refusal source (refusals_of_accounts (take place accounts)) ≡ None
    → first_refusal source (refusals_of_accounts accounts) ≡ Some (source + place, refusal)
first_refusal-some source [] place refusal below some none = absurd (omega arith)
first_refusal-some source (a ∷ accounts) zero refusal below some none = first a.refusals some where
  first : (refusals : List Refusal) → slice_get refusals 0 ≡ Some refusal
      → first_refusal source (refusals ∷ refusals_of_accounts accounts) ≡ Some (source + 0, refusal)
  first [] some = cc some
  first (r ∷ refusals) some =
      let same : r ≡ refusal = cc some in
      let here : source ≡ source + 0 = omega arith in
      λ i. Some (here i, same i)
first_refusal-some source (a ∷ accounts) (suc place) refusal below some none =
    over a.refusals none (first_refusal-some (source + 1) accounts place refusal (omega arith) some)
  where
    over : (refusals : List Refusal)
        → first_refusal source (refusals ∷ refusals_of_accounts (take place accounts)) ≡ None
        → (first_refusal (source + 1) (refusals_of_accounts (take place accounts)) ≡ None
        → first_refusal (source + 1) (refusals_of_accounts accounts) ≡ Some (source + 1 + place, refusal))
        → first_refusal source (refusals ∷ refusals_of_accounts accounts) ≡ Some (source + suc place, refusal)
    over [] none goes_on =
        let further : source + 1 + place ≡ source + suc place = omega arith in
        goes_on none ∙ ap (λ (n : ℕ). Some (n, refusal)) further
    over (r ∷ refusals) none goes_on = cc none

-- where there is none, no line was refused
pub status_after-first_refusal : (source : ℕ) (refusals : List (List Refusal)) → first_refusal source refusals ≡ None
    → status_after refusals ≡ Done
status_after-first_refusal source [] none = refl
status_after-first_refusal source ([] ∷ others) none = status_after-first_refusal (source + 1) others none
status_after-first_refusal source ((r ∷ refusals) ∷ others) none = cc none
