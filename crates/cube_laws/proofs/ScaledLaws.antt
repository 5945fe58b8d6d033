-- What the greatest common divisor with a power of ten is, and the fraction of a value for one of its units.
use Rattle.std.proofs.Common.{◌≡◌, ◌≢◌, ◌==◌, ℕ, zero, suc, ◌*◌, ◌/◌, ◌%◌, ◌^◌, ◌<◌, ℤ, pos, negsuc, neg_ℤ, ◌*ℤ◌}
use Rattle.std.proofs.Common.{unsigned_abs, int_div, refl, sym, ap, ◌∙◌, subst, arith, inl, inr}
use Prim.Native.Nat.{◌∣◌}
use Rattle.std.specs.Int.{IsGcd}
use Rattle.std.proofs.lemmas.Bool.{cases_Bool, eqb-true, eqb-false}
use Rattle.std.proofs.lemmas.Nat.{mod_below, mul-pow}
use Rattle.std.proofs.lemmas.Nat.Gcd.{IsGcd-from_mod, IsGcd-swap, dvd_of_mod-eq-zero, dvd_refl, dvd_trans}
use Rattle.std.proofs.Math.Nat.{div-mul_cancel, dvd-mul_right, dvd-mul_right_of_dvd, mul-dvd-mul_right}
use Rattle.std.proofs.Math.Nat.{mul_comm, one-dvd, one-le-pow, pos_of_dvd_of_pos, pow-suc, pow-zero, zero-mul}
use Rattle.cube_core.specs.Fraction.{IsInLowestTerms}
use Rattle.cube_core.specs.Text.{common_power, common_with_ten}
use Rattle.cube_core.proofs.CommonDivisorLaws.{IsGcd-divided, divides-IsGcd, divides-coprime}

-- ---- numbers with no common divisor
IsGcd-one : (n : ℕ) → IsGcd n 1 1
IsGcd-one n = (one-dvd n, one-dvd 1, λ d p q. q)

-- numbers that divide such numbers have none either
coprime-part : (a b c d : ℕ) → c ∣ a → d ∣ b → IsGcd a b 1 → IsGcd c d 1
coprime-part a b c d p q h = (
  one-dvd c,
  one-dvd d,
  λ e in_c in_d. h.2 e (dvd_trans e in_c p) (dvd_trans e in_d q),
)

-- a number that has none with each of two has none with their product
coprime-product : (n b c : ℕ) → IsGcd n b 1 → IsGcd n c 1 → IsGcd n (b * c) 1
coprime-product n b c first second = (
  one-dvd n,
  one-dvd (b * c),
  λ d p q.
      second.2 d p (divides-coprime d b c (coprime-part n b d b p (dvd_refl b) first) q),
)

coprime-power : (n base k : ℕ) → IsGcd n base 1 → IsGcd n (base ^ k) 1
coprime-power n base zero h = subst (λ m. IsGcd n m 1) (sym (pow-zero base)) (IsGcd-one n)
coprime-power n base (suc k) h =
    subst (λ m. IsGcd n m 1) (sym (pow-suc base k)) (coprime-product n (base ^ k) base (coprime-power n base k h) h)

-- ---- the powers of two and of five that divide a number
two-apart : (n : ℕ) → n % 2 ≢ 0 → IsGcd n 2 1
two-apart n odd =
    let is : n % 2 ≡ 1 = omega (arith, odd) in
    IsGcd-from_mod n 2 1 (subst (λ r. IsGcd 2 r 1) (sym is) (IsGcd-one 2))

five-rest : (r : ℕ) → r < 5 → r ≢ 0 → IsGcd 5 r 1
five-rest zero below some = absurd (some refl)
five-rest (suc zero) below some = IsGcd-one 5
five-rest (suc (suc zero)) below some = IsGcd-from_mod 5 2 1 (IsGcd-one 2)
five-rest (suc (suc (suc zero))) below some = IsGcd-from_mod 5 3 1 (IsGcd-from_mod 3 2 1 (IsGcd-one 2))
five-rest (suc (suc (suc (suc zero)))) below some = IsGcd-from_mod 5 4 1 (IsGcd-one 4)
five-rest (suc (suc (suc (suc (suc r))))) below some = absurd (omega (arith, below))

five-apart : (n : ℕ) → n % 5 ≢ 0 → IsGcd n 5 1
five-apart n apart = IsGcd-from_mod n 5 1 (five-rest (n % 5) (mod_below n 5 (omega arith)) apart)

-- a common divisor, multiplied
IsGcd-times : (a b g c : ℕ) → IsGcd a b g → IsGcd (a * c) (b * c) (g * c)
IsGcd-times a b g c h =
    (mul-dvd-mul_right g h.0 c, mul-dvd-mul_right g h.1 c, λ d p q. divides-IsGcd a b g c d h p q)

common_power-IsGcd : (base k n : ℕ) → ((m : ℕ) → m % base ≢ 0 → IsGcd m base 1)
    → IsGcd n (base ^ k) (common_power base k n)
common_power-IsGcd base zero n apart = subst (λ m. IsGcd n m 1) (sym (pow-zero base)) (IsGcd-one n)
common_power-IsGcd base (suc k) n apart = elim (cases_Bool (n % base == 0)) [
  | inl divides ↦
      let rest = common_power base k (n / base) in
      let whole : n / base * base ≡ n =
      div-mul_cancel base (dvd_of_mod-eq-zero base (eqb-true (n % base) 0 divides)) in
      let scaled = IsGcd-times (n / base) (base ^ k) rest base (common_power-IsGcd base k (n / base) apart) in
      rw (divides, pow-suc base k) (subst (λ m. IsGcd m (base ^ k * base) (base * rest)) whole
      (subst (λ g. IsGcd (n / base * base) (base ^ k * base) g) (mul_comm rest base) scaled))
  | inr other ↦ rw other (coprime-power n base (suc k) (apart n (eqb-false (n % base) 0 other)))
]

-- the greatest common divisor with a power of ten
pub common_with_ten-IsGcd : (k n : ℕ) → IsGcd n (10 ^ k) (common_with_ten k n)
common_with_ten-IsGcd k n =
    let twos = common_power 2 k n in
    let fives = common_power 5 k n in
    let by_two = common_power-IsGcd 2 k n two-apart in
    let by_five = common_power-IsGcd 5 k n five-apart in
    let two_and_five : IsGcd 5 2 1 = IsGcd-from_mod 5 2 1 (IsGcd-one 2) in
    let five_two : IsGcd (5 ^ k) (2 ^ k) 1 = coprime-power (5 ^ k) 2 k
    (IsGcd-swap 2 (5 ^ k) 1 (coprime-power 2 5 k (IsGcd-swap 5 2 1 two_and_five))) in
    let apart : IsGcd fives twos 1 = coprime-part (5 ^ k) (2 ^ k) fives twos by_five.1 by_two.1 five_two in
    let whole : n / twos * twos ≡ n = div-mul_cancel twos by_two.0 in
    let within : fives ∣ n / twos = divides-coprime fives twos (n / twos) apart
    (subst (λ m. fives ∣ m) (sym whole ∙ mul_comm (n / twos) twos) by_five.0) in
    let ten : 10 ^ k ≡ 2 ^ k * 5 ^ k = mul-pow 2 5 k in
    subst (λ m. IsGcd n m (twos * fives)) (sym ten) (
      subst (λ m. twos * fives ∣ m) whole
          (subst (λ g. g ∣ n / twos * twos) (mul_comm fives twos) (mul-dvd-mul_right fives within twos)),
      dvd_trans (twos * fives) (mul-dvd-mul_right twos by_two.1 fives)
          (subst (λ m. 2 ^ k * fives ∣ m) (mul_comm (5 ^ k) (2 ^ k))
          (subst (λ g. g ∣ 5 ^ k * 2 ^ k) (mul_comm fives (2 ^ k)) (mul-dvd-mul_right fives by_five.1 (2 ^ k)))),
      λ d p q.
          let first : d ∣ twos * 5 ^ k =
          divides-IsGcd n (2 ^ k) twos (5 ^ k) d by_two (dvd-mul_right_of_dvd d p (5 ^ k)) q in
          subst (λ m. d ∣ m) (mul_comm fives twos)
          (divides-IsGcd n (5 ^ k) fives twos d by_five (dvd-mul_right_of_dvd d p twos)
          (subst (λ m. d ∣ m) (mul_comm twos (5 ^ k)) first)),
    )

-- ---- the fraction of a value
-- the sign comes before or after the product
neg-times : (n k : ℕ) → neg_ℤ (pos n) *ℤ pos k ≡ neg_ℤ (pos (n * k))
neg-times zero k = rw zero-mul refl
neg-times (suc n) k = refl

pub times-times : (z : ℤ) (a b : ℕ) → z *ℤ pos a *ℤ pos b ≡ z *ℤ pos (a * b)
times-times (pos n) a b = ap pos (omega arith)
times-times (negsuc n) a b = neg-times (suc n * a) b ∙ ap (λ m. neg_ℤ (pos m)) (omega arith)

unsigned_abs-neg : (n : ℕ) → unsigned_abs (neg_ℤ (pos n)) ≡ n
unsigned_abs-neg zero = refl
unsigned_abs-neg (suc n) = refl

pub unsigned_abs-div : (z : ℤ) (g : ℕ) → unsigned_abs (int_div z (pos g)) ≡ unsigned_abs z / g
unsigned_abs-div (pos n) g = refl
unsigned_abs-div (negsuc n) g = unsigned_abs-neg (suc n / g)

-- what a divisor is taken out of makes no difference to a product
divide-times : (a b c g : ℕ) → g ∣ a → g ∣ b → a / g * (b * c) ≡ a * (c * (b / g))
divide-times a b c g p q =
    let first : a / g * g ≡ a = div-mul_cancel g p in
    let second : b / g * g ≡ b = div-mul_cancel g q in
    omega (arith, ap (λ m. a / g * (m * c)) (sym second), ap (λ m. m * (c * (b / g))) (sym first))

scaled-equal : (p : ℤ) (a c g : ℕ) → g ∣ unsigned_abs p → g ∣ a
    → int_div p (pos g) *ℤ pos (a * c) ≡ p *ℤ pos (c * (a / g))
scaled-equal (pos n) a c g first second = ap pos (divide-times n a c g first second)
scaled-equal (negsuc n) a c g first second =
    neg-times (suc n / g) (a * c) ∙ ap (λ m. neg_ℤ (pos m)) (divide-times (suc n) a c g first second)

-- the fraction that is printed for p/q units of 10^-k is p/(10^k * q) in lowest terms, where p/q is
pub scaled-IsInLowestTerms : (k : ℕ) (p : ℤ) (q : ℕ) → 0 < q → IsGcd (unsigned_abs p) q 1
    → IsInLowestTerms p (10 ^ k * q) (int_div p (pos (common_with_ten k (unsigned_abs p))))
    (q * (10 ^ k / common_with_ten k (unsigned_abs p)))
scaled-IsInLowestTerms k p q some coprime =
    let n = unsigned_abs p in
    let g = common_with_ten k n in
    let greatest = common_with_ten-IsGcd k n in
    let ten : 0 < 10 ^ k = one-le-pow k 10 (omega arith) in
    let positive : 0 < g = pos_of_dvd_of_pos greatest.1 ten in
    let divides : n / g ∣ n = subst (λ m. n / g ∣ m) (div-mul_cancel g greatest.0) (dvd-mul_right (n / g) g) in
    let part : 10 ^ k / g ∣ 10 ^ k =
    subst (λ m. 10 ^ k / g ∣ m) (div-mul_cancel g greatest.1) (dvd-mul_right (10 ^ k / g) g) in
    let some_part : 0 < 10 ^ k / g = pos_of_dvd_of_pos part ten in
    record {
      positive = product-positive q (10 ^ k / g) some some_part;
      coprime = subst (λ m. IsGcd m (q * (10 ^ k / g)) 1) (sym (unsigned_abs-div p g))
          (coprime-product (n / g) q (10 ^ k / g)
          (coprime-part n q (n / g) q divides (dvd_refl q) coprime)
          (IsGcd-divided n (10 ^ k) g positive greatest));
      equal = scaled-equal p (10 ^ k) q g greatest.0 greatest.1;
    } where
      product-positive : (a b : ℕ) → 0 < a → 0 < b → 0 < a * b
      product-positive zero b one two = absurd (omega (arith, one))
      product-positive (suc a) zero one two = absurd (omega (arith, two))
      product-positive (suc a) (suc b) one two = omega arith
