-- Sums of squares and variances are determined by the values, and a variance is made of how many there are, their sum
-- and the sum of their squares.
use Rattle.std.proofs.Common.{◌≡◌, ◌↔◌, ◌⊎◌, ℕ, zero, suc, ◌+◌, ◌-◌, ◌*◌, ◌<◌, ℤ, pos, unsigned_abs, Bool, true, false}
use Rattle.std.proofs.Common.{List, [], ◌∷◌, length, refl, sym, ap, ap₂, ◌∙◌, subst, inl, inr, arith}
use Rattle.std.proofs.Math.Nat.{eq_of_mul-eq-mul_right}
use Rattle.cube_core.specs.Answer.{IsAnswer, IsSum, IsSumOfSquares, IsVarianceAnswer}
use Rattle.cube_core.specs.Fraction.{IsInLowestTerms}
use Rattle.cube_core.specs.Group.{total_of, values_of}
use Rattle.cube_core.specs.Merged.{count_answered}
use Rattle.cube_core.specs.Variance.{AreEqual, IsVariance, deviations_of, freedom_of, spread, square, squares_of}
use Rattle.cube_core.specs.Wide.{IsReduced}
use Rattle.cube_core.specs.declared.aggregate.Agg.TheVariants as agg
use Rattle.cube_core.specs.declared.aggregate.Answer.{Answer}
use Rattle.cube_core.specs.declared.aggregate.Answer.TheVariants as answer
use Rattle.cube_core.specs.declared.fact.Fact.{Fact}
use Rattle.cube_core.proofs.VarianceLaws.{deviations_are_spread, squares_and_spread, variance_zero}
use Rattle.cube_laws.proofs.FractionLaws.{IsInLowestTerms-unique}

-- ---- sums of squares
pub IsSumOfSquares-unique : (values : List ℤ) (a b : Answer) → IsSumOfSquares values a → IsSumOfSquares values b
    → a ≡ b
IsSumOfSquares-unique [] a b h k = h ∙ sym k
IsSumOfSquares-unique (v ∷ vs) a b h k = h ∙ sym k

-- ---- fractions
-- a fraction of natural numbers is one of whole numbers
pub IsReduced-IsInLowestTerms : (n d p q : ℕ) → IsReduced n d p q → IsInLowestTerms (pos n) d (pos p) q
IsReduced-IsInLowestTerms n d p q h =
    record { positive = h.positive; coprime = h.coprime; equal = ap pos h.equal }

IsReduced-unique : (n d p p' q q' : ℕ) → IsReduced n d p q → IsReduced n d p' q' → (p ≡ p') × (q ≡ q')
IsReduced-unique n d p p' q q' h k =
    let same = IsInLowestTerms-unique (pos n) d (pos p) (pos p') q q' h.some
    (IsReduced-IsInLowestTerms n d p q h) (IsReduced-IsInLowestTerms n d p' q' k) in
    (ap unsigned_abs same.0, same.1)

-- ---- variances
-- an answer is null, where nothing is left to divide by, or a fraction
IsVarianceAnswer-cases : (is_sample : Bool) (values : List ℤ) (a : Answer) → IsVarianceAnswer is_sample values a
    → ((a ≡ answer.Null) × (freedom_of is_sample (length values) ≡ 0))
    ⊎ ((p : ℕ) × (q : ℕ) × (a ≡ answer.Variance p q) × IsVariance values is_sample p q)
IsVarianceAnswer-cases is_sample values answer.Null h = inl (refl, h)
IsVarianceAnswer-cases is_sample values (answer.Variance p q) h = inr (p, q, refl, h)
IsVarianceAnswer-cases is_sample values (answer.Count n) h = absurd h
IsVarianceAnswer-cases is_sample values (answer.Whole z) h = absurd h
IsVarianceAnswer-cases is_sample values (answer.Ratio p q) h = absurd h
IsVarianceAnswer-cases is_sample values (answer.Squares n) h = absurd h
IsVarianceAnswer-cases is_sample values (answer.Values held) h = absurd h

no_freedom : (n f : ℕ) → f ≡ 0 → 0 < n * n * f → ⊥
no_freedom n f none some = omega (arith, subst (λ k. 0 < n * n * k) none some)

IsVariance-freedom : (values : List ℤ) (is_sample : Bool) (p q : ℕ) → IsVariance values is_sample p q
    → freedom_of is_sample (length values) ≡ 0 → ⊥
IsVariance-freedom values is_sample p q h none =
    no_freedom (length values) (freedom_of is_sample (length values)) none h.fraction.some

pub IsVarianceAnswer-unique : (is_sample : Bool) (values : List ℤ) (a b : Answer)
    → IsVarianceAnswer is_sample values a → IsVarianceAnswer is_sample values b → a ≡ b
IsVarianceAnswer-unique is_sample values a b h k = elim (IsVarianceAnswer-cases is_sample values a h) [
  | inl none ↦ elim (IsVarianceAnswer-cases is_sample values b k) [
    | inl other ↦ none.0 ∙ sym other.0
    | inr some ↦ absurd (IsVariance-freedom values is_sample some.0 some.1 some.3 none.1)
  ]
  | inr one ↦ elim (IsVarianceAnswer-cases is_sample values b k) [
    | inl none ↦ absurd (IsVariance-freedom values is_sample one.0 one.1 one.3 none.1)
    | inr other ↦
        let same = IsReduced-unique (deviations_of values)
        (length values * length values * freedom_of is_sample (length values))
        one.0 other.0 one.1 other.1 one.3.fraction other.3.fraction in
        one.2 ∙ ap₂ answer.Variance same.0 same.1 ∙ sym other.2
  ]
]

-- ---- what a variance is made of
spread-positive : (n f : ℕ) → 0 < n * n * f → 0 < n * f
spread-positive zero f some = omega (arith, some)
spread-positive (suc n) zero some = omega (arith, some)
spread-positive (suc n) (suc f) some = omega arith

spread-equal : (n f p q d s : ℕ) → 0 < n * n * f → d ≡ n * s → p * (n * n * f) ≡ d * q → p * (n * f) ≡ s * q
spread-equal zero f p q d s some same e = absurd (omega (arith, some))
spread-equal (suc n) f p q d s some same e =
    eq_of_mul-eq-mul_right (suc n) (omega arith) (p * (suc n * f)) (s * q) (omega (arith, e, ap (λ k. k * q) same))

-- the variance is the fraction of the squares of the differences of any two values
pub IsVariance-spread : (values : List ℤ) (is_sample : Bool) (p q : ℕ) → IsVariance values is_sample p q
    → IsReduced (spread values) (length values * freedom_of is_sample (length values)) p q
IsVariance-spread values is_sample p q h =
    let n : ℕ = length values in
    let f : ℕ = freedom_of is_sample n in
    record {
      some = spread-positive n f h.fraction.some;
      positive = h.fraction.positive;
      coprime = h.fraction.coprime;
      equal = spread-equal n f p q (deviations_of values) (spread values) h.fraction.some (deviations_are_spread values)
          h.fraction.equal;
    }

-- these are the values' number times the sum of their squares, less the square of their sum
pub spread-sums : (values : List ℤ) → length values * squares_of values - square (total_of values) ≡ spread values
spread-sums values = omega (arith, squares_and_spread values)

pub IsVariance-reduced : (values : List ℤ) (is_sample : Bool) (p q : ℕ) → IsVariance values is_sample p q
    → IsReduced (length values * squares_of values - square (total_of values))
    (length values * freedom_of is_sample (length values)) p q
IsVariance-reduced values is_sample p q h =
    subst (λ (s : ℕ). IsReduced s (length values * freedom_of is_sample (length values)) p q)
    (sym (spread-sums values)) (IsVariance-spread values is_sample p q h)

-- ---- of groups of facts
-- a variance, from the number of the values, their sum and the sum of their squares
IsVariance-balance : (values : List ℤ) (is_sample : Bool) (p q : ℕ) → IsVariance values is_sample p q
    → p * (length values * freedom_of is_sample (length values)) + q * square (total_of values)
    ≡ q * (length values * squares_of values)
IsVariance-balance values is_sample p q h =
    omega (arith, (IsVariance-spread values is_sample p q h).equal, ap (λ k. k * q) (squares_and_spread values))

IsSum-whole : (values : List ℤ) (sum : ℤ) → IsSum values (answer.Whole sum) → sum ≡ total_of values
IsSum-whole [] sum is = cc
IsSum-whole (v ∷ vs) sum is = cc

IsSumOfSquares-squares : (values : List ℤ) (squares : ℕ) → IsSumOfSquares values (answer.Squares squares)
    → squares ≡ squares_of values
IsSumOfSquares-squares [] squares is = cc
IsSumOfSquares-squares (v ∷ vs) squares is = cc

variance-balance : (values : List ℤ) (is_sample : Bool) (p q squares count : ℕ) (sum : ℤ)
    → IsVariance values is_sample p q → IsSumOfSquares values (answer.Squares squares)
    → IsSum values (answer.Whole sum) → answer.Count count ≡ answer.Count (length values)
    → p * (count * freedom_of is_sample count) + q * square sum ≡ q * (count * squares)
variance-balance values is_sample p q squares count sum h squared summed counted =
    let many : count ≡ length values = ap count_answered counted in
    rw (many, IsSum-whole values sum summed, IsSumOfSquares-squares values squares squared)
    (IsVariance-balance values is_sample p q h)

pub IsAnswer-VarPop_balance : (group : List Fact) (m p q squares count : ℕ) (sum : ℤ)
    → IsAnswer group (agg.VarPop m) (answer.Variance p q) → IsAnswer group (agg.SumOfSquares m) (answer.Squares squares)
    → IsAnswer group (agg.Sum m) (answer.Whole sum) → IsAnswer group (agg.Count m) (answer.Count count)
    → p * (count * count) + q * square sum ≡ q * (count * squares)
IsAnswer-VarPop_balance group m p q squares count sum h squared summed counted =
    variance-balance (values_of m group) false p q squares count sum h squared summed counted

pub IsAnswer-VarSamp_balance : (group : List Fact) (m p q squares count : ℕ) (sum : ℤ)
    → IsAnswer group (agg.VarSamp m) (answer.Variance p q)
    → IsAnswer group (agg.SumOfSquares m) (answer.Squares squares)
    → IsAnswer group (agg.Sum m) (answer.Whole sum) → IsAnswer group (agg.Count m) (answer.Count count)
    → p * (count * (count - 1)) + q * square sum ≡ q * (count * squares)
IsAnswer-VarSamp_balance group m p q squares count sum h squared summed counted =
    variance-balance (values_of m group) true p q squares count sum h squared summed counted

-- where all values are equal
pub IsVariance-zero : (values : List ℤ) (is_sample : Bool) (p q : ℕ) → IsVariance values is_sample p q
    → (p ≡ 0) ↔ AreEqual values
IsVariance-zero values is_sample p q h =
    variance_zero values (length values * freedom_of is_sample (length values)) p q
    (IsVariance-reduced values is_sample p q h)

-- nulls
pub IsSumOfSquares-Null : (values : List ℤ) (a : Answer) → IsSumOfSquares values a → (a ≡ answer.Null) ↔ (values ≡ [])
IsSumOfSquares-Null [] a h = (λ null. refl, λ none. h)
IsSumOfSquares-Null (v ∷ vs) a h = (
  λ null. absurd (let clash : answer.Null ≡ answer.Squares (squares_of (v ∷ vs)) = sym null ∙ h in cc),
  λ none. absurd (omega (arith, ap (λ (values : List ℤ). length values) none)),
)

IsVarianceAnswer-Null : (is_sample : Bool) (values : List ℤ) (a : Answer) → IsVarianceAnswer is_sample values a
    → (a ≡ answer.Null) ↔ (freedom_of is_sample (length values) ≡ 0)
IsVarianceAnswer-Null is_sample values a h = elim (IsVarianceAnswer-cases is_sample values a h) [
  | inl none ↦ (λ null. none.1, λ zero. none.0)
  | inr some ↦ (
    λ null. absurd (let clash : answer.Null ≡ answer.Variance some.0 some.1 = sym null ∙ some.2 in cc),
    λ zero. absurd (IsVariance-freedom values is_sample some.0 some.1 some.3 zero),
  )
]

length-zero : (values : List ℤ) → length values ≡ 0 → values ≡ []
length-zero [] none = refl
length-zero (v ∷ vs) none = absurd (omega (arith, none))

pub IsVarianceAnswer-Null_population : (values : List ℤ) (a : Answer) → IsVarianceAnswer false values a
    → (a ≡ answer.Null) ↔ (values ≡ [])
IsVarianceAnswer-Null_population values a h =
    let both = IsVarianceAnswer-Null false values a h in
    (λ null. length-zero values (both.0 null), λ none. both.1 (ap (λ (xs : List ℤ). length xs) none))

pub IsVarianceAnswer-Null_sample : (values : List ℤ) (a : Answer) → IsVarianceAnswer true values a
    → (a ≡ answer.Null) ↔ (length values < 2)
IsVarianceAnswer-Null_sample values a h =
    let both = IsVarianceAnswer-Null true values a h in
    (λ null. omega (arith, both.0 null), λ few. both.1 (omega (arith, few)))
