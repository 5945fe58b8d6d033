-- The start of a file that isn't cut is the file.
use Rattle.std.proofs.Common.{◌≡◌, ◌≤◌, ◌+◌, ℕ, List, take, length, ◌∙◌, ap, inl, inr, arith}
use Rattle.std.specs.Prelude.{Option, Some, None, IfSome, option_map}
use Rattle.std.proofs.lemmas.List.{length-take-le, take_all}
use Rattle.std.proofs.lemmas.Bool.{cases_lt}

-- the start of a list that is shorter than what was to be taken is the list
pub take-short : (n : ℕ) (known start : List ℕ) → start ≡ take (n + 1) known → length start ≤ n → start ≡ known
take-short n known start e short = elim (cases_lt n (length known)) [
  | inl long ↦
      let full : length (take (n + 1) known) ≡ n + 1 = length-take-le (n + 1) known (omega arith) in
      let same : length start ≡ length (take (n + 1) known) = ap length e in
      absurd (omega arith)
  | inr fits ↦ e ∙ take_all (n + 1) known (omega arith)
]

-- the same of bytes that may be known
pub IfSome-take_short : (n : ℕ) (known : Option (List ℕ)) (start : List ℕ)
    → IfSome (option_map (take (n + 1)) known) (λ bytes. start ≡ bytes)
    → length start ≤ n → IfSome known (λ bytes. start ≡ bytes)
IfSome-take_short n None start e short = tt
IfSome-take_short n (Some known) start e short = take-short n known start e short
