-- Laws of grouping sets of which one is finer than another:
-- what is kept in the coarser one is kept of what is kept in the finer one.
use Rattle.std.proofs.Common.{◌≡◌, ℕ, ◌≤◌, ◌==◌, ◌%◌, ◌/◌, List, [], ◌∷◌, Bool, true, false, refl, sym, ap, ◌∙◌, arith}
use Rattle.std.proofs.Common.{Option, if◌then◌else◌}
use Rattle.std.specs.Prelude.{bit_and}
use Rattle.std.proofs.lemmas.Bool.{eqb-true, eq-eqb}
use Rattle.std.proofs.lemmas.Nat.{and_le_l, and_mod, and_shr, mod_below}
use Rattle.cube_core.proofs.AncestorLaws.{coord_of, ancestor_of}
use Rattle.cube_cells.specs.Codes.{kept_codes, all_code}

-- the first dimension of the coarser set is in the finer one
pub bit_and-odd : (finer set : ℕ) → bit_and finer set ≡ set → (set % 2 == 1) ≡ true → (finer % 2 == 1) ≡ true
bit_and-odd finer set within one =
    let both : bit_and (finer % 2) (set % 2) ≡ set % 2 = sym (and_mod finer set 1) ∙ ap (λ (n : ℕ). n % 2) within in
    let least : set % 2 ≤ finer % 2 = omega (arith, both, and_le_l (finer % 2) (set % 2)) in
    eq-eqb (finer % 2) 1 (omega (arith, least, eqb-true (set % 2) 1 one, mod_below finer 2 (omega arith)))

-- and so are the others
pub bit_and-half : (finer set : ℕ) → bit_and finer set ≡ set → bit_and (finer / 2) (set / 2) ≡ set / 2
bit_and-half finer set within = sym (and_shr finer set 1) ∙ ap (λ (n : ℕ). n / 2) within

-- what is kept of codes in the coarser set
pub kept_codes-within : (codes : List ℕ) (finer set : ℕ) → bit_and finer set ≡ set
    → kept_codes set (kept_codes finer codes) ≡ kept_codes set codes
kept_codes-within [] finer set within = refl
kept_codes-within (code ∷ codes) finer set within = first (set % 2 == 1) (finer % 2 == 1) refl
    (bit_and-odd finer set within) (kept_codes-within codes (finer / 2) (set / 2) (bit_and-half finer set within))
  where
    first : (s f : Bool) → (set % 2 == 1) ≡ s → ((set % 2 == 1) ≡ true → f ≡ true)
        → kept_codes (set / 2) (kept_codes (finer / 2) codes) ≡ kept_codes (set / 2) codes
        → (if s then (if f then code else all_code) else all_code) ∷ kept_codes (set / 2) (kept_codes (finer / 2) codes)
        ≡ (if s then code else all_code) ∷ kept_codes (set / 2) codes
    first true true is also rest = ap (λ (cs : List ℕ). code ∷ cs) rest
    first true false is also rest = cc (also is)
    first false f is also rest = ap (λ (cs : List ℕ). all_code ∷ cs) rest

-- values that are the same in the finer set are so in the coarser one
pub ancestor_of-within : (a b : List (Option (List ℕ))) (finer set : ℕ) → bit_and finer set ≡ set
    → ancestor_of a finer ≡ ancestor_of b finer → ancestor_of a set ≡ ancestor_of b set
unfolding ancestor_of
ancestor_of-within [] [] finer set within same = refl
ancestor_of-within [] (y ∷ b) finer set within same = cc same
ancestor_of-within (x ∷ a) [] finer set within same = cc same
ancestor_of-within (x ∷ a) (y ∷ b) finer set within same =
    let head : coord_of x (finer % 2 == 1) ≡ coord_of y (finer % 2 == 1) = cc same in
    let tail : ancestor_of a (finer / 2) ≡ ancestor_of b (finer / 2) = cc same in
    let rest : ancestor_of a (set / 2) ≡ ancestor_of b (set / 2) =
    ancestor_of-within a b (finer / 2) (set / 2) (bit_and-half finer set within) tail in
    let first : coord_of x (set % 2 == 1) ≡ coord_of y (set % 2 == 1) =
    both (set % 2 == 1) (finer % 2 == 1) refl (bit_and-odd finer set within) head in
    cc
  where
    both : (s f : Bool) → (set % 2 == 1) ≡ s → ((set % 2 == 1) ≡ true → f ≡ true) → coord_of x f ≡ coord_of y f
        → coord_of x s ≡ coord_of y s
    both true true is also head = head
    both true false is also head = cc (also is)
    both false f is also head = refl
