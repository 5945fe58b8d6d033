-- A total and a count have one fraction in lowest terms.
use Rattle.std.proofs.Common.{◌≡◌, ℕ, zero, suc, ◌-◌, ◌*◌, ◌<◌, ℤ, pos, negsuc, neg_ℤ, ◌*ℤ◌, unsigned_abs, sym, ◌∙◌, ap}
use Rattle.std.proofs.Common.{subst, arith}
use Prim.Native.Nat.{◌∣◌}
use Rattle.std.proofs.lemmas.Int.{unsigned_abs-mul}
use Rattle.std.proofs.lemmas.Nat.Gcd.{dvd_antisymm, IsGcd-swap}
use Rattle.std.proofs.Math.Nat.{le-mul_of_pos_right, eq_of_mul-eq-mul_right, dvd-mul_left}
use Rattle.cube_core.specs.Fraction.{IsInLowestTerms}
use Rattle.cube_core.proofs.CommonDivisorLaws.{divides-coprime}

-- a number below zero, by its distance from -1
neg_ℤ-pos : (n : ℕ) → 0 < n → neg_ℤ (pos n) ≡ negsuc (n - 1)
neg_ℤ-pos zero h = absurd (omega arith)
neg_ℤ-pos (suc n) h = ap negsuc (omega arith)

-- a product that is not below zero is none that is
pos-neg_ℤ : (a b n : ℕ) → 0 < n → pos (a * n) ≡ neg_ℤ (pos (suc b * n)) → ⊥
pos-neg_ℤ a b n some e =
    let below : neg_ℤ (pos (suc b * n)) ≡ negsuc (suc b * n - 1)
    = neg_ℤ-pos (suc b * n) (omega (arith, le-mul_of_pos_right (suc b) some)) in
    cc

-- the size of a product determines that of its first factor
unsigned_abs-factor : (p p' : ℤ) (n : ℕ) → 0 < n → p *ℤ pos n ≡ p' *ℤ pos n → unsigned_abs p ≡ unsigned_abs p'
unsigned_abs-factor p p' n some e =
    eq_of_mul-eq-mul_right n some (unsigned_abs p) (unsigned_abs p')
    (sym (unsigned_abs-mul p (pos n)) ∙ ap unsigned_abs e ∙ unsigned_abs-mul p' (pos n))

-- two numbers of one size are one, where their products with a count above 0 are
sign-factor : (p p' : ℤ) (n : ℕ) → 0 < n → unsigned_abs p ≡ unsigned_abs p' → p *ℤ pos n ≡ p' *ℤ pos n → p ≡ p'
sign-factor (pos a) (pos b) n some size e = ap pos size
sign-factor (pos a) (negsuc b) n some size e = absurd (pos-neg_ℤ a b n some e)
sign-factor (negsuc a) (pos b) n some size e = absurd (pos-neg_ℤ b a n some (sym e))
sign-factor (negsuc a) (negsuc b) n some size e = cc

-- the two fractions' sizes, multiplied crosswise
IsInLowestTerms-cross : (total : ℤ) (count : ℕ) (p p' : ℤ) (q q' : ℕ) → 0 < count →
    p *ℤ pos count ≡ total *ℤ pos q → p' *ℤ pos count ≡ total *ℤ pos q' →
    unsigned_abs p * q' ≡ unsigned_abs p' * q
IsInLowestTerms-cross total count p p' q q' some e e' =
    let size : unsigned_abs p * count ≡ unsigned_abs total * q
    = sym (unsigned_abs-mul p (pos count)) ∙ ap unsigned_abs e ∙ unsigned_abs-mul total (pos q) in
    let size' : unsigned_abs p' * count ≡ unsigned_abs total * q'
    = sym (unsigned_abs-mul p' (pos count)) ∙ ap unsigned_abs e' ∙ unsigned_abs-mul total (pos q') in
    eq_of_mul-eq-mul_right count some (unsigned_abs p * q') (unsigned_abs p' * q)
    (omega (arith, ap (λ k. k * q') size, ap (λ k. k * q) size'))

-- a denominator divides the other one
IsInLowestTerms-Divides : (total : ℤ) (count : ℕ) (p p' : ℤ) (q q' : ℕ) → 0 < count →
    IsInLowestTerms total count p q → IsInLowestTerms total count p' q' → q ∣ q'
IsInLowestTerms-Divides total count p p' q q' some h h' =
    divides-coprime q (unsigned_abs p) q' (IsGcd-swap (unsigned_abs p) q 1 h.coprime)
    (subst (λ k. q ∣ k) (sym (IsInLowestTerms-cross total count p p' q q' some h.equal h'.equal))
    (dvd-mul_left q (unsigned_abs p')))

-- the numerator and the denominator are determined by the total and the count
pub IsInLowestTerms-unique : (total : ℤ) (count : ℕ) (p p' : ℤ) (q q' : ℕ) → 0 < count →
    IsInLowestTerms total count p q → IsInLowestTerms total count p' q' → (p ≡ p') × (q ≡ q')
IsInLowestTerms-unique total count p p' q q' some h h' =
    let below : q ≡ q' = dvd_antisymm
    (IsInLowestTerms-Divides total count p p' q q' some h h')
    (IsInLowestTerms-Divides total count p' p q' q some h' h) in
    let products : p *ℤ pos count ≡ p' *ℤ pos count = h.equal ∙ ap (λ k. total *ℤ pos k) below ∙ sym h'.equal in
    (sign-factor p p' count some (unsigned_abs-factor p p' count some products) products, below)
