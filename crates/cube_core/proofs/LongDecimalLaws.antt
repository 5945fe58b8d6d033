-- The digits of long numbers, by the last digit, and by the last k.
use Rattle.std.proofs.Common.{◌≡◌, ℕ, suc, zero, ◌+◌, ◌*◌, ◌/◌, ◌%◌, ◌^◌, ◌<◌, ◌≤◌, List, [], ◌∷◌, ◌++◌, refl, sym, ◌∙◌, ap, arith}
use Rattle.std.proofs.Common.{append_assoc, decimal, inl, inr}
use Rattle.std.proofs.lemmas.Bool.{cases_lt, cond-true, cond-false, lt-ltb, le-ltb}
use Rattle.std.proofs.lemmas.Fmt.{decimal_digit, decimal_step_wide}
use Rattle.std.proofs.Math.Nat.{pow-suc, one-le-pow, mul-le-mul_right}
use Rattle.std.proofs.lemmas.List.{append-nil}
use Rattle.cube_core.specs.Wide.{last_digits, digits_within, long_decimal}

within_short : (k n : ℕ) → n < 10 → digits_within (suc k) n ≡ (48 + n) ∷ []
unfolding digits_within
within_short k n h = cond-true _ _ _ (lt-ltb n 10 h)

within_long : (k n : ℕ) → 10 ≤ n → digits_within (suc k) n ≡ digits_within k (n / 10) ++ ((48 + n % 10) ∷ [])
unfolding digits_within
within_long k n h = cond-false _ _ _ (le-ltb n 10 h)

-- more room than there are digits changes nothing
enough_room : (k m n : ℕ) → n < k → n < m → digits_within k n ≡ digits_within m n
enough_room zero m n h i = absurd (omega arith)
enough_room (suc k) zero n h i = absurd (omega arith)
enough_room (suc k) (suc m) n h i =
    elim (cases_lt n 10) [
      | inl short ↦ within_short k n short ∙ sym (within_short m n short)
      | inr long ↦
          within_long k n long
          ∙ ap (λ t. t ++ ((48 + n % 10) ∷ [])) (enough_room k m (n / 10) (omega arith) (omega arith))
          ∙ sym (within_long m n long)
    ]

pub long_decimal_digit : (n : ℕ) → n < 10 → long_decimal n ≡ (48 + n) ∷ []
unfolding long_decimal
long_decimal_digit n h = within_short n n h

pub long_decimal_step : (n : ℕ) → 10 ≤ n → long_decimal n ≡ long_decimal (n / 10) ++ ((48 + n % 10) ∷ [])
unfolding long_decimal
long_decimal_step n h =
    within_long n n h
    ∙ ap (λ t. t ++ ((48 + n % 10) ∷ [])) (enough_room n (suc (n / 10)) (n / 10) (omega arith) (omega arith))

pub last_digits_none : (n : ℕ) → last_digits 0 n ≡ []
unfolding last_digits
last_digits_none n = refl

pub last_digits_step : (k n : ℕ) → last_digits (suc k) n ≡ last_digits k (n / 10) ++ ((48 + n % 10) ∷ [])
unfolding last_digits
last_digits_step k n = refl

ten_within : (q k : ℕ) → 0 < q → 10 ≤ q * (10 ^ k * 10)
ten_within q k some =
    omega (arith, mul-le-mul_right (10 ^ k * 10) some, mul-le-mul_right 10 (one-le-pow k 10 (omega arith)))

-- the digits of a number are those before its last k, and its last k
pub long_decimal_split : (k q r n : ℕ) → 0 < q → r < 10 ^ k → n ≡ q * 10 ^ k + r
    → long_decimal n ≡ long_decimal q ++ last_digits k r
long_decimal_split zero q r n some h e =
    let none : r ≡ 0 = omega (arith, h) in
    let same : n ≡ q = omega (arith, e) in
    ap long_decimal same ∙ sym (append-nil (long_decimal q)) ∙ ap (λ t. long_decimal q ++ t) (sym (last_digits_none r))
long_decimal_split (suc k) q r n some h e =
    let power : 10 ^ suc k ≡ 10 ^ k * 10 = pow-suc 10 k in
    let whole : n ≡ q * 10 ^ k * 10 + r = omega (arith, e, ap (λ p. q * p) power) in
    let fits : r < 10 ^ k * 10 = omega (arith, h, power) in
    let front : n / 10 ≡ q * 10 ^ k + r / 10 = omega arith in
    let last : n % 10 ≡ r % 10 = omega arith in
    let many : 10 ≤ n = omega (arith, e, ten_within q k some, ap (λ p. q * p) power) in
    long_decimal_step n many
    ∙ ap (λ t. t ++ ((48 + n % 10) ∷ [])) (long_decimal_split k q (r / 10) (n / 10) some (omega arith) front)
    ∙ ap (λ d. (long_decimal q ++ last_digits k (r / 10)) ++ ((48 + d) ∷ [])) last
    ∙ append_assoc (long_decimal q) (last_digits k (r / 10)) ((48 + r % 10) ∷ [])
    ∙ ap (λ t. long_decimal q ++ t) (sym (last_digits_step k r))

-- up to 64 digits it is what the standard library writes
decimal_steps : (steps n : ℕ) → n < steps → n < 10 ^ 64 → long_decimal n ≡ decimal n
decimal_steps zero n h i = absurd (omega arith)
decimal_steps (suc k) n h i =
    elim (cases_lt n 10) [
      | inl short ↦ long_decimal_digit n short ∙ sym (decimal_digit n short)
      | inr long ↦
          long_decimal_step n long
          ∙ ap (λ t. t ++ ((48 + n % 10) ∷ [])) (decimal_steps k (n / 10) (omega arith) (omega arith))
          ∙ sym (decimal_step_wide n long i)
    ]

pub long_decimal_is_decimal : (n : ℕ) → n < 10 ^ 64 → long_decimal n ≡ decimal n
long_decimal_is_decimal n h = decimal_steps (suc n) n (omega arith) h

-- a text to which two pieces were put in turn
pub joined_pieces : (old front last whole one both : List ℕ) → one ≡ old ++ front → both ≡ one ++ last
    → front ++ last ≡ whole → both ≡ old ++ whole
joined_pieces old front last whole one both e f g =
    f ∙ ap (λ t. t ++ last) e ∙ append_assoc old front last ∙ ap (λ t. old ++ t) g
