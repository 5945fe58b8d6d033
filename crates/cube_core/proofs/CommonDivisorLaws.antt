-- Common divisors and products: what Euclid's steps say of the divisors of a multiple, and Gauss's lemma.
use Rattle.std.proofs.Common.{◌≡◌, ℕ, zero, suc, ◌+◌, ◌*◌, ◌/◌, ◌%◌, ◌<◌, sym, ap, subst, arith}
use Prim.Native.Nat.{◌∣◌}
use Rattle.std.specs.Int.{IsGcd}
use Rattle.std.proofs.lemmas.Nat.{mod_below, div-add-mod'}
use Rattle.std.proofs.lemmas.Nat.Gcd.{dvd_refl, dvd-zero, dvd_trans}
use Rattle.std.proofs.Math.Nat.{one-dvd, one-mul, dvd-mod_iff, dvd-mul_right, dvd-mul_right_of_dvd, dvd-add_iff_right}
use Rattle.std.proofs.Math.Nat.{mul-dvd-mul_right, dvd_of_mul-dvd-mul_right, div-mul_cancel}

-- Euclid's step, forward
IsGcd-remainder : (a b g : ℕ) → IsGcd a b g → IsGcd b (a % b) g
IsGcd-remainder a b g h = (h.1, (dvd-mod_iff g h.1).1 h.0, λ d p q. h.2 d ((dvd-mod_iff d p).0 q) p)

-- what divides c times a and c times b divides c times the remainder
divides-remainder : (a b c d : ℕ) → d ∣ a * c → d ∣ b * c → d ∣ a % b * c
divides-remainder a b c d p q =
    let whole : a * c ≡ b * c * (a / b) + a % b * c = omega (arith, ap (λ k. k * c) (div-add-mod' a b)) in
    (dvd-add_iff_right d (dvd-mul_right_of_dvd d q (a / b))).1 (subst (λ k. d ∣ k) whole p)

-- what divides c times a and c times b divides c times their greatest common divisor; b is below `steps`
divides-steps : (steps a b g c d : ℕ) → b < steps → IsGcd a b g → d ∣ a * c → d ∣ b * c → d ∣ g * c
divides-steps zero a b g c d few h p q = absurd (omega arith)
divides-steps (suc n) a zero g c d few h p q =
    dvd_trans d p (mul-dvd-mul_right a (h.2 a (dvd_refl a) (dvd-zero a)) c)
divides-steps (suc n) a (suc m) g c d few h p q =
    let below : a % suc m < suc m = mod_below a (suc m) (omega arith) in
    divides-steps n (suc m) (a % suc m) g c d (omega arith) (IsGcd-remainder a (suc m) g h) q
    (divides-remainder a (suc m) c d p q)

pub divides-IsGcd : (a b g c d : ℕ) → IsGcd a b g → d ∣ a * c → d ∣ b * c → d ∣ g * c
divides-IsGcd a b g c d = divides-steps (suc b) a b g c d (omega arith)

-- Gauss's lemma: what divides a product and has no divisor in common with one factor divides the other
pub divides-coprime : (a b c : ℕ) → IsGcd a b 1 → a ∣ b * c → a ∣ c
divides-coprime a b c h p = subst (λ k. a ∣ k) (one-mul c) (divides-IsGcd a b 1 c a h (dvd-mul_right a c) p)

-- two numbers, each divided by their greatest common divisor, have no common divisor above 1
pub IsGcd-divided : (a b g : ℕ) → 0 < g → IsGcd a b g → IsGcd (a / g) (b / g) 1
IsGcd-divided a b g some h =
    let up : (n d : ℕ) → g ∣ n → d ∣ n / g → d * g ∣ n
    = λ n d p q. subst (λ k. d * g ∣ k) (div-mul_cancel g p) (mul-dvd-mul_right d q g)
    in (
      one-dvd (a / g),
      one-dvd (b / g),
      λ d p q.
          dvd_of_mul-dvd-mul_right d some
          (subst (λ k. d * g ∣ k) (sym (one-mul g)) (h.2 (d * g) (up a d h.0 p) (up b d h.1 q))),
    )
