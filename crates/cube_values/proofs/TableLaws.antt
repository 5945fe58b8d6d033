-- Laws of a table whose entries are in the order of their numbers.
use Rattle.std.proofs.Common.{◌≡◌, ℕ, [], ◌∷◌, cond}
use Rattle.std.specs.Prelude.{ℤ, None, Some}
use Rattle.std.specs.declared.cmp.Ordering.{Ordering}
use Rattle.std.specs.declared.cmp.Ordering.TheVariants.{Less, Equal, Greater}
use Rattle.std.specs.BTreeMap.{insert_entry}
use Rattle.std.specs.List.Sorted.{IsPermutation}
use Rattle.std.specs.Map.{lookup}
use Rattle.std.specs.Ordering.{int_cmp, int_eq, is_eq, match_ordering}
use Rattle.std.proofs.lemmas.List.Sorted.{IsPermutation-refl, IsPermutation-trans, IsPermutation-append, IsPermutation-middle}
use Rattle.cube_values.specs.Bag.{Bag}

-- a new number is one entry more
pub one_more_entry : (bag : Bag) (v : ℤ) (n : ℕ) → lookup (int_eq v) bag ≡ None
    → IsPermutation ((v, n) ∷ bag) (insert_entry int_cmp bag v n)
one_more_entry [] v n absent = IsPermutation-refl ((v, n) ∷ [])
one_more_entry (e ∷ bag) v n absent = by (int_cmp v e.0) absent
    (λ others. one_more_entry bag v n others) where
      by : (r : Ordering) → cond (is_eq r) (Some e.1) (lookup (int_eq v) bag) ≡ None
          → (lookup (int_eq v) bag ≡ None → IsPermutation ((v, n) ∷ bag) (insert_entry int_cmp bag v n))
          → IsPermutation ((v, n) ∷ e ∷ bag)
          (match_ordering r ((v, n) ∷ e ∷ bag) ((e.0, n) ∷ bag) (e ∷ insert_entry int_cmp bag v n))
      by Less h later = IsPermutation-refl ((v, n) ∷ e ∷ bag)
      by Equal h later = cc
      by Greater h later = IsPermutation-trans ((v, n) ∷ e ∷ bag) (e ∷ (v, n) ∷ bag) (e ∷ insert_entry int_cmp bag v n)
          (IsPermutation-middle ((v, n) ∷ []) e bag)
          (IsPermutation-append (e ∷ []) (e ∷ []) ((v, n) ∷ bag) (insert_entry int_cmp bag v n)
          (IsPermutation-refl (e ∷ [])) (later h))
