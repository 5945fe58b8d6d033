-- Laws of the sum of a bag.
use Rattle.std.proofs.lemmas.Bool.{cases_lt}
use Rattle.std.proofs.Common.{inl, inr, ◌≡◌, ℕ, suc, zero, ◌*◌, ◌^◌, ◌<◌, ◌≤◌, [], ◌∷◌, true, false, refl, arith, ap}
use Rattle.std.proofs.Common.{sym, subst, ◌∙◌, FitsSigned}
use Rattle.std.specs.Int.{w64, w128}
use Rattle.std.proofs.Math.Nat.{mul-le-mul_left}
use Rattle.std.specs.Ordering.{int_eq}
use Rattle.std.specs.Prelude.{ℤ, pos, ◌+ℤ◌, ◌-ℤ◌}
use Rattle.std.proofs.lemmas.Int.{ints}
use borrow.Author.Differences.{up, down}
use Rattle.cube_values.specs.Bag.{Bag, weight_of, held_of, size_of, one_at, AddsBag, AddsOne}
use Rattle.cube_cells.specs.Sum.{IsSumOf, sum_of}
use Rattle.cube_values.proofs.BagLaws.{weight_of-bag, weight_of-cons, weight_of-one, weight_of-nothing, one_at-refl}
use Rattle.cube_values.proofs.BagLaws.{one_at-distinct, int_eq-same}

-- the sum: what the numbers above 0 come to, less what those below do
pub sum_of-weight_of : (bag : Bag) → sum_of bag ≡ pos (weight_of up bag) -ℤ pos (weight_of down bag)
sum_of-weight_of [] = refl
sum_of-weight_of (pair ∷ bag) =
    omega (arith, ints, sum_of-weight_of bag, weight_of-cons up pair bag, weight_of-cons down pair bag)

-- where each number that is held counts m at most
weight_of-bound : (f : ℤ → ℕ) (m : ℕ) (bag : Bag) → ((x : ℤ) → 0 < held_of bag x → f x ≤ m)
    → weight_of f bag ≤ size_of bag * m
weight_of-bound f m [] h = omega arith
weight_of-bound f m (e ∷ bag) h =
    let rest : weight_of f bag ≤ size_of bag * m =
    weight_of-bound f m bag (λ x held. h x (omega (arith, weight_of-cons (one_at x) e bag))) in
    omega (
      arith,
      weight_of-cons f e bag,
      ap (λ n. n * m) (weight_of-cons (λ _. 1) e bag),
      rest,
      counted e.1
          (λ some. h e.0 (omega (arith, weight_of-cons (one_at e.0) e bag, ap (λ n. n * e.1) (one_at-refl e.0)))),
    ) where
      counted : (c : ℕ) → (0 < c → f e.0 ≤ m) → f e.0 * c ≤ m * c
      counted zero k = omega arith
      counted (suc c) k = omega (arith, mul-le-mul_left (suc c) (k (omega arith)))

-- a kept sum fits 128 bits
pub IsSumOf-FitsSigned : (bag : Bag) (sum : ℤ) → IsSumOf bag sum → size_of bag < 2 ^ 64 → FitsSigned w128 sum
IsSumOf-FitsSigned bag sum s few =
    let over : weight_of up bag ≤ size_of bag * 2 ^ 63 =
    weight_of-bound up (2 ^ 63) bag (λ x held. let fits = s.fits x held in omega (arith, ints)) in
    let under : weight_of down bag ≤ size_of bag * 2 ^ 63 =
    weight_of-bound down (2 ^ 63) bag (λ x held. let fits = s.fits x held in omega (arith, ints)) in
    omega (arith, ints, s.is_sum ∙ sum_of-weight_of bag)

-- one number more
pub IsSumOf-add : (old new : Bag) (sum v : ℤ) → IsSumOf old sum → FitsSigned w64 v → AddsOne old new v
    → IsSumOf new (sum +ℤ v)
IsSumOf-add old new sum v s fits adds = record {
  is_sum = omega (
    arith,
    ints,
    s.is_sum ∙ sum_of-weight_of old,
    weight_of-one up old new v adds,
    weight_of-one down old new v adds,
  ) ∙ sym (sum_of-weight_of new);
  fits = λ x held. elim (int_eq x v) as (λ b. int_eq x v ≡ b → FitsSigned w64 x) [
    | true ↦ λ same. subst (FitsSigned w64) (sym (int_eq-same x v same)) fits
    | false ↦ λ apart. s.fits x (omega (arith, adds.held x, one_at-distinct x v apart))
  ] refl;
}

-- one number less
pub IsSumOf-take : (old new : Bag) (sum v : ℤ) → IsSumOf old sum → AddsOne new old v → IsSumOf new (sum -ℤ v)
IsSumOf-take old new sum v s adds = record {
  is_sum = omega (
    arith,
    ints,
    s.is_sum ∙ sum_of-weight_of old,
    weight_of-one up new old v adds,
    weight_of-one down new old v adds,
  ) ∙ sym (sum_of-weight_of new);
  fits = λ x held. s.fits x (omega (arith, adds.held x));
}

-- the numbers of both
pub IsSumOf-join : (old new more : Bag) (sum other : ℤ) → IsSumOf old sum → IsSumOf more other → AddsBag old new more
    → IsSumOf new (sum +ℤ other)
IsSumOf-join old new more sum other s o adds = record {
  is_sum = omega (
    arith,
    ints,
    s.is_sum ∙ sum_of-weight_of old,
    o.is_sum ∙ sum_of-weight_of more,
    weight_of-bag up old new more adds,
    weight_of-bag down old new more adds,
  ) ∙ sym (sum_of-weight_of new);
  fits = λ x held. elim (cases_lt 0 (held_of old x)) [
    | inl here ↦ s.fits x here
    | inr none ↦ o.fits x (omega (arith, held, none, adds.held x))
  ];
}

-- the sum of nothing
pub IsSumOf-nothing : (bag : Bag) → ((x : ℤ) → held_of bag x ≡ 0) → IsSumOf bag (pos 0)
IsSumOf-nothing bag none = record {
  is_sum = omega (arith, ints, weight_of-nothing up bag none, weight_of-nothing down bag none)
      ∙ sym (sum_of-weight_of bag);
  fits = λ x held. absurd (omega (arith, none x));
}
