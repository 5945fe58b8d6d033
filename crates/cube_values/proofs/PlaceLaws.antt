-- Laws of the place that a search in a list gives.
use Rattle.std.proofs.Common.{◌≡◌, ℕ, ◌<◌, List, length, get_or, sym, ◌∙◌}
use Rattle.std.specs.Prelude.{Option, Some, None, All, IfSome, IfNone, MatchOption}
use Rattle.std.specs.List.{HoldsAt, AllWithin}
use Rattle.std.proofs.lemmas.List.{get_or_default}
use Rattle.std.proofs.lemmas.List.Elements.{All-from_all_within}

-- what is said of the first place of a list
abbrev pub IsFirst : {X : Type 0} → (Yes No : X → Type 0) → List X → Option ℕ → Type 0
IsFirst Yes No xs place = MatchOption place (AllWithin No xs 0 (length xs))
    (λ i. (i < length xs) × HoldsAt Yes xs i × AllWithin No xs 0 i)

pub IsFirst-absent : {X : Type 0} (Yes No : X → Type 0) (xs : List X) (place : Option ℕ) → IsFirst Yes No xs place
    → IfNone place (All No xs)
IsFirst-absent Yes No xs None first = All-from_all_within No xs first
IsFirst-absent Yes No xs (Some i) first = tt

pub IsFirst-within : {X : Type 0} (Yes No : X → Type 0) (xs : List X) (place : Option ℕ) → IsFirst Yes No xs place
    → IfSome place (λ i. i < length xs)
IsFirst-within Yes No xs None first = tt
IsFirst-within Yes No xs (Some i) first = first.0

pub IsFirst-found : {X : Type 0} (Yes No : X → Type 0) (xs : List X) (place : Option ℕ) → IsFirst Yes No xs place
    → IfSome place (HoldsAt Yes xs)
IsFirst-found Yes No xs None first = tt
IsFirst-found Yes No xs (Some i) first = first.1

-- what stands at a place, read twice
pub read_twice : {X : Type 0} (xs : List X) (i : ℕ) (e r : X) → i < length xs → e ≡ get_or xs i e → r ≡ get_or xs i r
    → r ≡ e
read_twice xs i e r within is read = read ∙ get_or_default xs i r e within ∙ sym is
