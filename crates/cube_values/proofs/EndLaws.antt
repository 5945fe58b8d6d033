-- Laws of the ends of bags.
use Rattle.std.proofs.Common.{◌≡◌, ℕ, ◌*◌, ◌<◌, [], ◌∷◌, ◌++◌, refl, arith, ap}
use Rattle.std.proofs.Common.{true, false, cond, inl, inr, ◌⊎◌}
use Rattle.std.specs.Prelude.{ℤ, ◌≤ℤ◌, Some, All, Contains, int_lt}
use Rattle.std.specs.Map.{keys_of}
use Rattle.std.specs.Int.{int_min, int_max}
use Rattle.std.specs.Ordering.{int_eq}
use Rattle.std.proofs.Math.Logic.{⊎_elim}
use Rattle.std.proofs.lemmas.Bool.{cases_lt}
use Rattle.std.proofs.lemmas.Int.{ints}
use Rattle.std.proofs.lemmas.List.Sums.{sum_by-append}
use Rattle.cube_values.specs.Bag.{Bag, one_at, held_of, size_of, SameHeld, AddsBag, HasEnds}
use Rattle.cube_values.proofs.BagLaws.{part, weight_of-cons, one_at-refl, one_at-distinct, int_eq-same}
use Rattle.cube_values.proofs.BagLaws.{held_le_size, least_of_pairs, greatest_of_pairs}

-- what is held is of the whole
pub held_of-size_of : (bag : Bag) (x : ℤ) → 0 < held_of bag x → size_of bag ≡ 0 → ⊥
held_of-size_of bag x some none = omega (arith, held_le_size bag x, some, none)

-- two lists, one behind the other
pub AddsBag-append : (old more : Bag) → AddsBag old (old ++ more) more
AddsBag-append old more = record { held = λ x. sum_by-append (part (one_at x)) old more }

-- the ends of a pair
pub HasEnds-pair : (v : ℤ) (n : ℕ) → 0 < n → HasEnds ((v, n) ∷ []) v v
HasEnds-pair v n some = record {
  least = record { held = here; below = λ x h. omega (arith, ints, only x h) };
  greatest = record { held = here; above = λ x h. omega (arith, ints, only x h) };
} where
  here : 0 < held_of ((v, n) ∷ []) v
  here = omega (arith, some, weight_of-cons (one_at v) (v, n) [], ap (λ m. m * n) (one_at-refl v))

  only : (x : ℤ) → 0 < held_of ((v, n) ∷ []) x → x ≡ v
  only x h = elim (int_eq x v) as (λ b. int_eq x v ≡ b → x ≡ v) [
    | true ↦ λ t. int_eq-same x v t
    | false ↦
        λ t. absurd (omega (arith, h, weight_of-cons (one_at x) (v, n) [], ap (λ m. m * n) (one_at-distinct x v t)))
  ] refl

-- the ends of pairs, by their least and greatest numbers
pub HasEnds-keys_of : (bag : Bag) (l g : ℤ) → All (λ e. 0 < e.1) bag → Contains (keys_of bag) l
    → All (λ e. l ≤ℤ e.0) bag → Contains (keys_of bag) g → All (λ e. e.0 ≤ℤ g) bag → HasEnds bag l g
HasEnds-keys_of bag l g some at_least below at_most above = record {
  least = least_of_pairs bag (Some l) some at_least below;
  greatest = greatest_of_pairs bag (Some g) some at_most above;
}

-- the ends of both
pub HasEnds-AddsBag : (old new more : Bag) (l g m h : ℤ) → AddsBag old new more → HasEnds old l g → HasEnds more m h
    → HasEnds new (int_min l m) (int_max g h)
HasEnds-AddsBag old new more l g m h both first second = record {
  least = record {
    held = low;
    below = λ x some.
        ⊎_elim (λ a. below_first x (first.least.below x a)) (λ b. below_second x (second.least.below x b)) (of x some);
  };
  greatest = record {
    held = high;
    above = λ x some. ⊎_elim (λ a. above_first x (first.greatest.above x a))
        (λ b. above_second x (second.greatest.above x b)) (of x some);
  };
} where
  of : (x : ℤ) → 0 < held_of new x → (0 < held_of old x) ⊎ (0 < held_of more x)
  of x some = ⊎_elim inl (λ none. inr (omega (arith, some, both.held x, none))) (cases_lt 0 (held_of old x))

  low : 0 < held_of new (int_min l m)
  low = elim (int_lt m l) as (λ b. 0 < held_of new (cond b m l)) [
    | true ↦ omega (arith, both.held m, second.least.held)
    | false ↦ omega (arith, both.held l, first.least.held)
  ]

  high : 0 < held_of new (int_max g h)
  high = elim (int_lt h g) as (λ b. 0 < held_of new (cond b g h)) [
    | true ↦ omega (arith, both.held g, first.greatest.held)
    | false ↦ omega (arith, both.held h, second.greatest.held)
  ]

  below_first : (x : ℤ) → l ≤ℤ x → int_min l m ≤ℤ x
  below_first x le = grind (arith, ints, le)

  below_second : (x : ℤ) → m ≤ℤ x → int_min l m ≤ℤ x
  below_second x le = grind (arith, ints, le)

  above_first : (x : ℤ) → x ≤ℤ g → x ≤ℤ int_max g h
  above_first x le = grind (arith, ints, le)

  above_second : (x : ℤ) → x ≤ℤ h → x ≤ℤ int_max g h
  above_second x le = grind (arith, ints, le)

-- equal bags have equal ends
pub HasEnds-SameHeld : (old new : Bag) (low high : ℤ) → SameHeld old new → HasEnds old low high → HasEnds new low high
HasEnds-SameHeld old new low high same ends = record {
  least = record {
    held = omega (arith, same.held low, ends.least.held);
    below = λ x some. ends.least.below x (omega (arith, same.held x, some));
  };
  greatest = record {
    held = omega (arith, same.held high, ends.greatest.held);
    above = λ x some. ends.greatest.above x (omega (arith, same.held x, some));
  };
}
