-- The text of a long number of units tells the number, and that of a long fraction the fraction.
use Rattle.std.proofs.Common.{◌≡◌, ◌==◌, ℕ, zero, suc, ◌+◌, ◌-◌, ◌*◌, ◌/◌, ◌%◌, ◌^◌, ◌<◌, pos, unsigned_abs}
use Rattle.std.proofs.Common.{[], ◌∷◌, ◌++◌, length, sym, ap, ◌∙◌, subst, arith, append_assoc, codes, inl, inr}
use Rattle.std.specs.Char.{digit_value}
use Rattle.std.specs.Int.{IsGcd}
use Rattle.std.specs.List.{AllByRecursion}
use Rattle.std.specs.Str.Parse.{digits_value}
use Rattle.std.proofs.lemmas.Bool.{cases_Bool, cases_lt}
use Rattle.std.proofs.lemmas.Int.Digits.{digits_value_push}
use Rattle.std.proofs.lemmas.Str.{digit_value_digit}
use Rattle.cube_core.specs.Fraction.{IsInLowestTerms}
use Rattle.cube_core.specs.Takes.{null_text}
use Rattle.cube_core.specs.Text.{common_with_ten, long_fraction_text, long_units_text, padded}
use Rattle.cube_core.specs.Wide.{long_decimal}
use Rattle.cube_core.proofs.LongDecimalLaws.{long_decimal_digit, long_decimal_step}
use Rattle.cube_laws.proofs.FractionLaws.{IsInLowestTerms-unique}
use Rattle.cube_laws.proofs.ScaledLaws.{scaled-IsInLowestTerms}
use Rattle.cube_laws.proofs.UnitTextLaws.{IsPlain, IsUnsigned, all-append, null_text-plain, pointed-IsUnsigned}
use Rattle.cube_laws.proofs.UnitTextLaws.{pointed-unique, slash-unique, unsigned-plain, zeros-value}

-- ---- digits
digit-value : (d : ℕ) → d < 10 → digit_value (48 + d) ≡ d
digit-value d small = omega (arith, digit_value_digit (48 + d) (omega arith, omega arith))

digit-IsUnsigned : (d : ℕ) → d < 10 → IsUnsigned (48 + d)
digit-IsUnsigned d small = (omega arith, omega arith, λ same. omega (arith, same))

-- the value of the digits of a number
value-steps : (steps n : ℕ) → n < steps → digits_value 10 (long_decimal n) ≡ n
value-steps zero n below = absurd (omega (arith, below))
value-steps (suc steps) n below = elim (cases_lt n 10) [
  | inl short ↦
      ap (digits_value 10) (long_decimal_digit n short)
      ∙ digits_value_push 10 [] (48 + n)
      ∙ omega (arith, digit-value n short)
  | inr long ↦
      ap (digits_value 10) (long_decimal_step n long)
      ∙ digits_value_push 10 (long_decimal (n / 10)) (48 + n % 10)
      ∙ rw (value-steps steps (n / 10) (omega arith), digit-value (n % 10) (omega arith)) (omega arith)
]

long_decimal-value : (n : ℕ) → digits_value 10 (long_decimal n) ≡ n
long_decimal-value n = value-steps (suc n) n (omega arith)

long_decimal-unique : (m n : ℕ) → long_decimal m ≡ long_decimal n → m ≡ n
long_decimal-unique m n same = sym (long_decimal-value m) ∙ ap (digits_value 10) same ∙ long_decimal-value n

-- no byte of them is a minus sign
unsigned-steps : (steps n : ℕ) → n < steps → AllByRecursion IsUnsigned (long_decimal n)
unsigned-steps zero n below = absurd (omega (arith, below))
unsigned-steps (suc steps) n below = elim (cases_lt n 10) [
  | inl short ↦
      subst (AllByRecursion IsUnsigned) (sym (long_decimal_digit n short)) (digit-IsUnsigned n short, tt)
  | inr long ↦
      subst (AllByRecursion IsUnsigned) (sym (long_decimal_step n long))
      (all-append IsUnsigned (long_decimal (n / 10)) ((48 + n % 10) ∷ [])
      (unsigned-steps steps (n / 10) (omega arith)) (digit-IsUnsigned (n % 10) (omega arith), tt))
]

long_decimal-IsUnsigned : (n : ℕ) → AllByRecursion IsUnsigned (long_decimal n)
long_decimal-IsUnsigned n = unsigned-steps (suc n) n (omega arith)

long_decimal-IsPlain : (n : ℕ) → AllByRecursion IsPlain (long_decimal n)
long_decimal-IsPlain n = unsigned-plain (long_decimal n) (long_decimal-IsUnsigned n)

-- ---- units
padded-value : (least n : ℕ) → digits_value 10 (padded least (long_decimal n)) ≡ n
padded-value least n = zeros-value (least - length (long_decimal n)) (long_decimal n) ∙ long_decimal-value n

pub long_units_text-unique : (k m n : ℕ) → long_units_text k m ≡ long_units_text k n → m ≡ n
long_units_text-unique k m n same = elim (cases_Bool (k == 0)) [
  | inl none ↦ long_decimal-unique m n (rw none at same)
  | inr some ↦
      let digits : padded (k + 1) (long_decimal m) ≡ padded (k + 1) (long_decimal n) =
      pointed-unique k (padded (k + 1) (long_decimal m)) (padded (k + 1) (long_decimal n)) (rw some at same) in
      sym (padded-value (k + 1) m) ∙ ap (digits_value 10) digits ∙ padded-value (k + 1) n
]

long_units_text-IsUnsigned : (k n : ℕ) → AllByRecursion IsUnsigned (long_units_text k n)
long_units_text-IsUnsigned k n = elim (cases_Bool (k == 0)) [
  | inl none ↦ rw none (long_decimal-IsUnsigned n)
  | inr some ↦ rw some (pointed-IsUnsigned k (long_decimal n) (long_decimal-IsUnsigned n))
]

-- ---- fractions
-- the numerator and the denominator that are printed
abbrev long_numerator : ℕ → ℕ → ℕ
long_numerator k p = p / common_with_ten k p

abbrev long_denominator : ℕ → ℕ → ℕ → ℕ
long_denominator k p q = q * (10 ^ k / common_with_ten k p)

-- the text of a fraction, by its slash
long_fraction_text-slash : (k p q : ℕ)
    → long_fraction_text k p q ≡ long_decimal (long_numerator k p) ++ 47 ∷ long_decimal (long_denominator k p q)
long_fraction_text-slash k p q =
    append_assoc (long_decimal (long_numerator k p)) (codes "/") (long_decimal (long_denominator k p q))

-- a fraction in lowest terms is that of what is printed for it
printed-IsInLowestTerms : (k p q : ℕ) → 0 < q → IsGcd p q 1
    → (0 < long_denominator k p q)
    × IsInLowestTerms (pos (long_numerator k p * 10 ^ k)) (long_denominator k p q) (pos p) q
printed-IsInLowestTerms k p q some coprime =
    let scaled = scaled-IsInLowestTerms k (pos p) q some coprime in (
      scaled.positive,
      record {
        positive = some;
        coprime = coprime;
        equal = sym scaled.equal ∙ ap pos (omega arith);
      },
    )

pub long_fraction_text-unique : (k p p' q q' : ℕ) → 0 < q → 0 < q' → IsGcd p q 1 → IsGcd p' q' 1
    → long_fraction_text k p q ≡ long_fraction_text k p' q' → (p ≡ p') × (q ≡ q')
long_fraction_text-unique k p p' q q' some some' coprime coprime' same =
    let parts = slash-unique (long_decimal (long_numerator k p)) (long_decimal (long_numerator k p'))
    (long_decimal (long_denominator k p q)) (long_decimal (long_denominator k p' q'))
    (long_decimal-IsPlain (long_numerator k p)) (long_decimal-IsPlain (long_numerator k p'))
    (sym (long_fraction_text-slash k p q) ∙ same ∙ long_fraction_text-slash k p' q') in
    let numerators : long_numerator k p' ≡ long_numerator k p =
    sym (long_decimal-unique (long_numerator k p) (long_numerator k p') parts.0) in
    let denominators : long_denominator k p' q' ≡ long_denominator k p q =
    sym (long_decimal-unique (long_denominator k p q) (long_denominator k p' q') parts.1) in
    let one = printed-IsInLowestTerms k p q some coprime in
    let other = printed-IsInLowestTerms k p' q' some' coprime' in
    let fractions = IsInLowestTerms-unique (pos (long_numerator k p * 10 ^ k)) (long_denominator k p q) (pos p) (pos p')
    q q' one.0 one.1
    (subst (λ (n : ℕ). IsInLowestTerms (pos (long_numerator k p * 10 ^ k)) n (pos p') q') denominators
    (subst (λ (n : ℕ). IsInLowestTerms (pos (n * 10 ^ k)) (long_denominator k p' q') (pos p') q') numerators
    other.1)) in
    (ap unsigned_abs fractions.0, fractions.1)

-- ---- null
pub null_text-long_units : (k n : ℕ) → null_text ≡ long_units_text k n → ⊥
null_text-long_units k n same =
    let unsigned : AllByRecursion IsUnsigned null_text =
    subst (AllByRecursion IsUnsigned) (sym same) (long_units_text-IsUnsigned k n) in
    omega (arith, unsigned.0.1)

pub null_text-long_fraction : (k p q : ℕ) → null_text ≡ long_fraction_text k p q → ⊥
null_text-long_fraction k p q same =
    null_text-plain (long_decimal (long_numerator k p)) (long_decimal (long_denominator k p q))
    (long_decimal-IsPlain (long_numerator k p)) (same ∙ long_fraction_text-slash k p q)
