-- A total and a count, each divided by their greatest common divisor, are a fraction in lowest terms.
use Rattle.std.proofs.Common.{◌≡◌, ℕ, zero, suc, ◌*◌, ◌/◌, ◌<◌, ◌≤◌, ℤ, pos, negsuc, neg_ℤ, ◌*ℤ◌, unsigned_abs, int_div}
use Rattle.std.proofs.Common.{refl, sym, ◌∙◌, ap, subst, arith}
use Prim.Native.Nat.{◌∣◌}
use Rattle.std.specs.Int.{IsGcd}
use Rattle.std.proofs.Math.Nat.{zero-mul, div-mul_cancel, dvd-mul_right, pos_of_dvd_of_pos}
use Rattle.cube_core.specs.Fraction.{IsInLowestTerms}
use Rattle.cube_core.proofs.CommonDivisorLaws.{IsGcd-divided}

-- the sign comes before or after the product
neg-times : (n k : ℕ) → neg_ℤ (pos n) *ℤ pos k ≡ neg_ℤ (pos (n * k))
neg-times zero k = rw zero-mul refl
neg-times (suc n) k = refl

unsigned_abs-neg : (n : ℕ) → unsigned_abs (neg_ℤ (pos n)) ≡ n
unsigned_abs-neg zero = refl
unsigned_abs-neg (suc n) = refl

-- which of two numbers a common divisor is taken out of makes no difference to their product
divide-times : (a b g : ℕ) → g ∣ a → g ∣ b → a / g * b ≡ a * (b / g)
divide-times a b g p q =
    omega (arith, ap (λ k. k * (b / g)) (div-mul_cancel g p), ap (λ k. a / g * k) (div-mul_cancel g q))

quotient-positive : (n g : ℕ) → 0 < n → g ∣ n → 0 < n / g
quotient-positive n g some p =
    pos_of_dvd_of_pos (subst (λ k. n / g ∣ k) (div-mul_cancel g p) (dvd-mul_right (n / g) g)) some

pub IsInLowestTerms-IsGcd : (total : ℤ) (count g : ℕ) → 1 ≤ count → IsGcd (unsigned_abs total) count g →
    IsInLowestTerms total count (int_div total (pos g)) (count / g)
IsInLowestTerms-IsGcd (pos a) count g some h =
    record {
      positive = quotient-positive count g some h.1;
      coprime = IsGcd-divided a count g (pos_of_dvd_of_pos h.1 some) h;
      equal = ap pos (divide-times a count g h.0 h.1);
    }
IsInLowestTerms-IsGcd (negsuc a) count g some h =
    record {
      positive = quotient-positive count g some h.1;
      coprime = subst (λ k. IsGcd k (count / g) 1) (sym (unsigned_abs-neg (suc a / g)))
          (IsGcd-divided (suc a) count g (pos_of_dvd_of_pos h.1 some) h);
      equal = neg-times (suc a / g) count ∙ ap (λ k. neg_ℤ (pos k)) (divide-times (suc a) count g h.0 h.1);
    }
