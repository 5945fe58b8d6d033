-- How the text of a long number of units is put together, and taken apart.
use Rattle.std.proofs.Common.{◌≡◌, ◌≢◌, ◌+◌, ◌-◌, ◌*◌, ◌/◌, ◌%◌, ◌^◌, ◌<◌, ◌≤◌, ◌∷◌, [], ◌++◌, ℕ, suc, zero, List}
use Rattle.std.proofs.Common.{refl, sym, ap, ◌∙◌, arith, inl, inr, append_assoc, codes, decimal, length, length-append}
use Rattle.std.proofs.Common.{replicate}
use Rattle.std.proofs.lemmas.Bool.{cases_lt, ne_eqb}
use Rattle.std.proofs.lemmas.List.{append-nil, length-replicate}
use Rattle.std.proofs.lemmas.Nat.{div-add-mod', mod_below}
use Rattle.std.proofs.Math.Nat.{one-le-pow, pow-suc}
use Rattle.cube_core.specs.Text.{long_units_text, padded, pointed}
use Rattle.cube_core.specs.Wide.{last_digits, long_decimal}
use Rattle.cube_core.proofs.LongDecimalLaws.{last_digits_none, last_digits_step, long_decimal_digit, long_decimal_step}
use Rattle.cube_core.proofs.LongDecimalLaws.{long_decimal_is_decimal}
use Rattle.cube_lines.proofs.UnitTextLaws.{long_decimal-some, long_padded-more, padded-enough, pointed-parts}

-- a number with a zero before it where it has no more than k digits: what stands before the last k of them, and these
pub padded-split : (k q r n : ℕ) → r < 10 ^ k → n ≡ q * 10 ^ k + r
    → padded (k + 1) (long_decimal n) ≡ long_decimal q ++ last_digits k r
padded-split zero q r n h e =
    let same : n ≡ q = omega (arith, h, e) in
    ap (λ m. padded 1 (long_decimal m)) same ∙ padded-enough 1 (long_decimal q) (long_decimal-some q)
    ∙ sym (append-nil (long_decimal q)) ∙ ap (λ t. long_decimal q ++ t) (sym (last_digits_none r))
padded-split (suc k) q r n h e =
    let power : 10 ^ suc k ≡ 10 ^ k * 10 = pow-suc 10 k in
    let whole : n ≡ q * 10 ^ k * 10 + r = omega (arith, e, ap (λ p. q * p) power) in
    let fits : r < 10 ^ k * 10 = omega (arith, h, power) in
    let front : n / 10 ≡ q * 10 ^ k + r / 10 = omega arith in
    let last : n % 10 ≡ r % 10 = omega arith in
    let cut : n ≡ n / 10 * 10 + n % 10 = omega arith in
    let one_more : suc k + 1 ≡ k + 1 + 1 = omega arith in
    ap (λ i. padded i (long_decimal n)) one_more ∙ ap (λ m. padded (k + 1 + 1) (long_decimal m)) cut
    ∙ long_padded-more (k + 1) (n / 10) (n % 10) (omega arith) (omega arith)
    ∙ ap (λ t. t ++ (48 + n % 10) ∷ []) (padded-split k q (r / 10) (n / 10) (omega arith) front)
    ∙ ap (λ d. (long_decimal q ++ last_digits k (r / 10)) ++ (48 + d) ∷ []) last
    ∙ append_assoc (long_decimal q) (last_digits k (r / 10)) ((48 + r % 10) ∷ [])
    ∙ ap (λ t. long_decimal q ++ t) (sym (last_digits_step k r))

pub length-last_digits : (k n : ℕ) → length (last_digits k n) ≡ k
length-last_digits zero n = ap length (last_digits_none n)
length-last_digits (suc k) n = ap length (last_digits_step k n) ∙ omega (
  arith,
  length-append (last_digits k (n / 10)) ((48 + n % 10) ∷ []),
  length-last_digits k (n / 10),
)

-- a number of no more digits, with zeros before them
padded-last : (k n : ℕ) → n < 10 ^ suc k → padded (suc k) (long_decimal n) ≡ last_digits (suc k) n
padded-last zero n h =
    let small : n < 10 = omega (arith, h) in
    let last : n % 10 ≡ n = omega (arith, small) in
    ap (padded 1) (long_decimal_digit n small) ∙ ap (λ d. (48 + d) ∷ []) (sym last)
    ∙ ap (λ t. t ++ (48 + n % 10) ∷ []) (sym (last_digits_none (n / 10))) ∙ sym (last_digits_step 0 n)
padded-last (suc k) n h =
    let power : 10 ^ suc (suc k) ≡ 10 ^ suc k * 10 = pow-suc 10 (suc k) in
    let front : n / 10 < 10 ^ suc k = omega (arith, h, power) in
    let cut : n ≡ n / 10 * 10 + n % 10 = omega arith in
    let one_more : suc (suc k) ≡ suc k + 1 = omega arith in
    ap (λ i. padded i (long_decimal n)) one_more ∙ ap (λ m. padded (suc k + 1) (long_decimal m)) cut
    ∙ long_padded-more (suc k) (n / 10) (n % 10) (omega arith) (omega arith)
    ∙ ap (λ t. t ++ (48 + n % 10) ∷ []) (padded-last k (n / 10) front) ∙ sym (last_digits_step (suc k) n)

pub last-padded : (k n : ℕ) → 1 ≤ k → n < 10 ^ k → n < 10 ^ 64 → padded k (decimal n) ≡ last_digits k n
last-padded zero n some h small = absurd (omega (arith, some))
last-padded (suc k) n some h small =
    ap (padded (suc k)) (sym (long_decimal_is_decimal n small)) ∙ padded-last k n h

pub decimal-within : (k n : ℕ) → 1 ≤ k → n < 10 ^ k → n < 10 ^ 64 → length (decimal n) ≤ k
decimal-within k n some h small =
    let zeros : List ℕ = replicate (k - length (decimal n)) 48 in
    let long : length (zeros ++ decimal n) ≡ k =
    ap length (last-padded k n some h small) ∙ length-last_digits k n in
    let many : length zeros ≡ k - length (decimal n) = length-replicate (k - length (decimal n)) 48 in
    omega (arith, long, length-append zeros (decimal n), many)

-- a long number without digits behind a point
pub long_units-whole : (k n : ℕ) → k ≡ 0 → long_units_text k n ≡ long_decimal n
long_units-whole k n none = rw none refl

-- one with a point
pub long_units-digits : (k n : ℕ) → k ≢ 0 → long_units_text k n ≡ pointed k (padded (k + 1) (long_decimal n))
long_units-digits k n some = rw (ne_eqb k 0 some) refl

-- what stands before it, and its last digits
pub long_units-pointed : (k q r n : ℕ) → k ≢ 0 → r < 10 ^ k → n ≡ q * 10 ^ k + r
    → long_decimal q ++ codes "." ++ last_digits k r ≡ long_units_text k n
long_units-pointed k q r n some h e =
    sym (long_units-digits k n some ∙ ap (pointed k) (padded-split k q r n h e)
    ∙ pointed-parts k (long_decimal q) (last_digits k r) (length-last_digits k r))

-- where the last k digits of a number have only a zero before them, they are all of it
one-digit : (n : ℕ) → length (long_decimal n) ≤ 1 → n < 10
one-digit n short = elim (cases_lt n 10) [
  | inl small ↦ small
  | inr long ↦ absurd (omega (
    arith,
    short,
    ap length (long_decimal_step n long),
    length-append (long_decimal (n / 10)) ((48 + n % 10) ∷ []),
    long_decimal-some (n / 10),
  ))
]

zero-before : (k n : ℕ) (digits : List ℕ) → length digits ≡ k → padded (k + 1) (long_decimal n) ≡ 48 ∷ digits
    → (n < 10 ^ k) × (last_digits k n ≡ digits)
zero-before k n digits long is =
    let q : ℕ = n / 10 ^ k in
    let r : ℕ = n % 10 ^ k in
    let below : r < 10 ^ k = mod_below n (10 ^ k) (one-le-pow k 10 (omega arith)) in
    let whole : n ≡ q * 10 ^ k + r = sym (div-add-mod' n (10 ^ k)) in
    let both : long_decimal q ++ last_digits k r ≡ 48 ∷ digits = sym (padded-split k q r n below whole) ∙ is in
    let short : length (long_decimal q) ≤ 1 =
    omega (arith, ap length both, length-append (long_decimal q) (last_digits k r), length-last_digits k r, long) in
    let parts : (48 + q) ∷ last_digits k r ≡ 48 ∷ digits =
    ap (λ t. t ++ last_digits k r) (sym (long_decimal_digit q (one-digit q short))) ∙ both in
    let head : 48 + q ≡ 48 = cc in
    let tail : last_digits k r ≡ digits = cc in
    let none : q ≡ 0 = omega (arith, head) in
    let all : n ≡ r = omega (arith, whole, ap (λ x. x * 10 ^ k) none) in
    (omega (arith, all, below), ap (λ m. last_digits k m) all ∙ tail)

-- a number of which what stands before its last k digits and these were read
pub long_behind : (k front last number : ℕ) (digits : List ℕ) → length digits ≡ k → last < 10 ^ 64
    → padded (k + 1) (decimal last) ≡ decimal 0 ++ digits → number ≡ front * 10 ^ k + last
    → padded (k + 1) (long_decimal number) ≡ long_decimal front ++ digits
long_behind k front last number digits long small is number_is =
    let zero_is : decimal 0 ≡ 48 ∷ [] =
    sym (long_decimal_is_decimal 0 (omega arith)) ∙ long_decimal_digit 0 (omega arith) in
    let read = zero-before k last digits long
    (ap (padded (k + 1)) (long_decimal_is_decimal last small) ∙ is ∙ ap (λ t. t ++ digits) zero_is) in
    padded-split k front last number read.0 number_is ∙ ap (λ t. long_decimal front ++ t) read.1
