-- How the part of a power of ten that divides a number is found.
use Rattle.std.proofs.Common.{◌≡◌, ◌≢◌, ◌+◌, ◌-◌, ◌*◌, ◌/◌, ◌%◌, ◌^◌, ◌<◌, ◌≤◌, ℕ, zero, suc, refl, sym, ap, ◌∙◌, arith}
use Rattle.std.proofs.Common.{ℤ, pos, negsuc, decimal, int_div, ◌++◌, codes}
use Rattle.std.specs.Fmt.{signed_decimal}
use Rattle.std.proofs.lemmas.Bool.{ne_eqb}
use Rattle.std.proofs.lemmas.Nat.{div-mul-add, mod-mul-add, mod_below, mul-pow}
use Rattle.std.proofs.Math.Arith.{mod-mul}
use Rattle.std.proofs.Math.Nat.{div-one, mul-one, mul-le-mul, one-le-pow, pow-le-pow_left, pow-le-pow_right, pow-succ'}
use Rattle.cube_core.specs.Text.{common_power, common_with_ten, fraction_text}

-- no power is looked for
pub common_power-none : (base k n : ℕ) → k ≡ 0 → 1 ≡ common_power base k n
common_power-none base k n none = sym (ap (λ i. common_power base i n) none)

-- a number that the base doesn't divide
pub common_power-stop : (base k n : ℕ) → n % base ≢ 0 → 1 ≡ common_power base k n
common_power-stop base zero n apart = refl
common_power-stop base (suc k) n apart = rw (ne_eqb (n % base) 0 apart) refl

-- a number that it divides
pub common_power-more : (base k n : ℕ) → 1 ≤ k → n % base ≡ 0
    → base * common_power base (k - 1) (n / base) ≡ common_power base k n
common_power-more base zero n some none = absurd (omega (arith, some))
common_power-more base (suc k) n some none =
    let before : suc k - 1 ≡ k = omega arith in
    rw (before, none) refl

-- one factor more stays within a power
pub power-more : (base k n : ℕ) → 1 ≤ k → n ≤ base ^ (k - 1) → base * n ≤ base ^ k
power-more base zero n some bound = absurd (omega (arith, some))
power-more base (suc k) n some bound =
    let before : suc k - 1 ≡ k = omega arith in
    rw (pow-succ' base k) (mul-le-mul {n₁ = base} {n₂ = base} (omega arith) (rw before at bound))

-- powers of small numbers are small
pub power-small : (base k n : ℕ) → 1 ≤ base → base ≤ 5 → k ≤ 36 → n ≤ base ^ k → n < 2 ^ 128
power-small base k n some base_small few bound =
    let one : base ^ k ≤ 5 ^ k = pow-le-pow_left base_small k in
    let two : 5 ^ k ≤ 5 ^ 36 = pow-le-pow_right (omega arith) few in
    omega (arith, bound, one, two)

-- a power of two and one of five
pub powers-within : (k a b : ℕ) → a ≤ 2 ^ k → b ≤ 5 ^ k → a * b ≤ 10 ^ k
powers-within k a b twos fives =
    omega (
      arith,
      mul-le-mul {n₁ = a} {m₁ = b} {n₂ = 2 ^ k} {m₂ = 5 ^ k} twos fives,
      mul-pow 2 5 k,
    )

pub product-positive : (a b : ℕ) → 1 ≤ a → 1 ≤ b → 1 ≤ a * b
product-positive a b one two = mul-le-mul {n₁ = 1} {m₁ = 1} one two

-- powers of ten
pub ten-small : (k : ℕ) → k ≤ 18 → 10 ^ k < 2 ^ 60
ten-small k few =
    let one : 10 ^ k ≤ 10 ^ 18 = pow-le-pow_right (omega arith) few in
    omega (arith, one)

pub long_ten-small : (k : ℕ) → k ≤ 36 → 10 ^ k < 2 ^ 127
long_ten-small k few =
    let one : 10 ^ k ≤ 10 ^ 36 = pow-le-pow_right (omega arith) few in
    omega (arith, one)

-- a power of a number divides what a multiple of that power leaves of a number just where it divides the number
common_power-rest : (base c k n : ℕ) → 1 ≤ base → 1 ≤ c
    → common_power base k (n % (base ^ k * c)) ≡ common_power base k n
common_power-rest base c zero n some many = refl
common_power-rest base c (suc k) n some many =
    let m : ℕ = base ^ k * c in
    let power : base ^ suc k * c ≡ m * base = omega (arith, ap (λ x. x * c) (pow-succ' base k)) in
    let positive : 1 ≤ m = mul-le-mul {n₁ = 1} {m₁ = 1} (one-le-pow k base some) many in
    let cut : n % (base ^ suc k * c) ≡ (n / base % m) * base + n % base =
    ap (λ x. n % x) power ∙ mod-mul n positive some in
    let below : n % base < base = mod_below n base some in
    let last : n % (base ^ suc k * c) % base ≡ n % base =
    ap (λ x. x % base) cut ∙ mod-mul-add (n / base % m) base (n % base) below in
    let front : n % (base ^ suc k * c) / base ≡ n / base % m =
    ap (λ x. x / base) cut ∙ div-mul-add (n / base % m) base (n % base) below in
    rw (last, front, common_power-rest base c k (n / base) some many) refl

pub common_with_ten-rest : (k n : ℕ) → common_with_ten k (n % 10 ^ k) ≡ common_with_ten k n
common_with_ten-rest k n =
    let two : 10 ^ k ≡ 2 ^ k * 5 ^ k = mul-pow 2 5 k in
    let five : 10 ^ k ≡ 5 ^ k * 2 ^ k = mul-pow 5 2 k in
    ap (λ m. common_power 2 k (n % m) * common_power 5 k (n % 10 ^ k)) two
    ∙ ap (λ m. common_power 2 k (n % (2 ^ k * 5 ^ k)) * common_power 5 k (n % m)) five
    ∙ ap (λ x. x * common_power 5 k (n % (5 ^ k * 2 ^ k)))
    (common_power-rest 2 (5 ^ k) k n (omega arith) (one-le-pow k 5 (omega arith)))
    ∙ ap (λ x. common_power 2 k n * x) (common_power-rest 5 (2 ^ k) k n (omega arith) (one-le-pow k 2 (omega arith)))

-- a number divided by one
int_div-one : (z : ℤ) → int_div z (pos 1) ≡ z
int_div-one (pos n) = ap pos (div-one n)
int_div-one (negsuc n) = rw (div-one (suc n)) refl

-- a fraction without digits behind a point
pub fraction-whole : (k : ℕ) (p : ℤ) (q : ℕ) → k ≡ 0 → signed_decimal p ++ codes "/" ++ decimal q ≡ fraction_text k p q
fraction-whole k p q none =
    rw (none, int_div-one p, mul-one q) refl
