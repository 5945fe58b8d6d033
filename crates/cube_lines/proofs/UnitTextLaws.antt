-- How the text of a number of units is put together.
use Rattle.std.proofs.Common.{◌≡◌, ◌≢◌, ◌+◌, ◌-◌, ◌*◌, ◌/◌, ◌%◌, ◌^◌, ◌<◌, ◌≤◌, ◌∷◌, [], ◌++◌, ℕ, suc, zero, List, refl, sym}
use Rattle.std.proofs.Common.{ℤ, pos, negsuc, ◌<ℤ◌, ◌≤ℤ◌, unsigned_abs}
use Rattle.std.specs.Fmt.{signed_decimal}
use Rattle.std.proofs.lemmas.Int.{ints}
use Rattle.std.proofs.Common.{ap, ◌∙◌, arith, inl, inr, append_assoc, codes, decimal, drop, length, length-append}
use Rattle.std.proofs.Common.{replicate, take}
use Rattle.std.proofs.lemmas.List.{length-replicate, replicate_more}
use Rattle.std.proofs.Math.Seq.{drop-append_seam, take-append_seam}
use Rattle.std.proofs.lemmas.Bool.{cases_lt, ne_eqb}
use Rattle.cube_core.specs.Text.{padded, pointed, signed_units_text, units_text}
use Rattle.cube_core.specs.Wide.{long_decimal}
use Rattle.cube_core.proofs.LongDecimalLaws.{long_decimal_digit, long_decimal_is_decimal, long_decimal_step}

-- more digits than stand behind the point
pub pointed-long : (k : ℕ) (digits : List ℕ) → k < length digits
    → pointed k (padded (k + 1) digits) ≡ take (length digits - k) digits ++ codes "." ++ drop (length digits - k) digits
pointed-long k digits long =
    let none : k + 1 - length digits ≡ 0 = omega (arith, long) in
    ap (pointed k) (ap (λ n. replicate n 48 ++ digits) none)

-- no more of them: zeros stand before them
pub pointed-short : (k : ℕ) (digits : List ℕ) → length digits ≤ k
    → pointed k (padded (k + 1) digits) ≡ codes "0." ++ replicate (k - length digits) 48 ++ digits
pointed-short k digits short =
    let zeros : List ℕ = replicate (k - length digits) 48 in
    let one_more : k + 1 - length digits ≡ suc (k - length digits) = omega (arith, short) in
    let all : padded (k + 1) digits ≡ 48 ∷ (zeros ++ digits) = ap (λ n. replicate n 48 ++ digits) one_more in
    let many : length zeros ≡ k - length digits = length-replicate (k - length digits) 48 in
    let front : length (48 ∷ (zeros ++ digits)) - k ≡ 1 = omega (arith, short, length-append zeros digits, many) in
    ap (pointed k) all
    ∙ ap (λ n. take n (48 ∷ (zeros ++ digits)) ++ codes "." ++ drop n (48 ∷ (zeros ++ digits))) front

-- a number without digits behind a point
pub units-whole : (k n : ℕ) → k ≡ 0 → units_text k n ≡ decimal n
units-whole k n none = rw none refl

pub units-pointed : (k n : ℕ) → k ≢ 0 → units_text k n ≡ pointed k (padded (k + 1) (decimal n))
units-pointed k n some = rw (ne_eqb k 0 some) refl

-- three parts, put down one after another, the second of one byte
pub three-parts : (byte : ℕ) (old p q all a b c : List ℕ) → a ≡ old ++ p → b ≡ a ++ byte ∷ [] → c ≡ b ++ q
    → (p ++ byte ∷ []) ++ q ≡ all → c ≡ old ++ all
three-parts byte old p q all a b c a_is b_is c_is all_is =
    c_is ∙ ap (λ t. t ++ q) (b_is ∙ ap (λ t. t ++ byte ∷ []) a_is ∙ append_assoc old p (byte ∷ []))
    ∙ append_assoc old (p ++ byte ∷ []) q ∙ ap (λ t. old ++ t) all_is

-- digits with none missing
pub padded-enough : (least : ℕ) (digits : List ℕ) → least ≤ length digits → padded least digits ≡ digits
padded-enough least digits many =
    let none : least - length digits ≡ 0 = omega (arith, many) in
    ap (λ n. replicate n 48 ++ digits) none

-- digits and one more, with zeros before them
padded-push : (least d : ℕ) (digits : List ℕ) → padded (least + 1) (digits ++ d ∷ []) ≡ padded least digits ++ d ∷ []
padded-push least d digits =
    let same : least + 1 - length (digits ++ d ∷ []) ≡ least - length digits =
    omega (arith, length-append digits (d ∷ [])) in
    ap (λ n. replicate n 48 ++ (digits ++ d ∷ [])) same
    ∙ sym (append_assoc (replicate (least - length digits) 48) digits (d ∷ []))

-- one more digit of a number that isn't 0
pub long_decimal-more : (n d : ℕ) → 1 ≤ n → d < 10 → long_decimal (n * 10 + d) ≡ long_decimal n ++ (48 + d) ∷ []
long_decimal-more n d some digit =
    let front : (n * 10 + d) / 10 ≡ n = omega (arith, digit) in
    let last : (n * 10 + d) % 10 ≡ d = omega (arith, digit) in
    long_decimal_step (n * 10 + d) (omega (arith, some))
    ∙ ap (λ m. long_decimal m ++ (48 + (n * 10 + d) % 10) ∷ []) front ∙ ap (λ m. long_decimal n ++ (48 + m) ∷ []) last

pub decimal-more : (n d : ℕ) → 1 ≤ n → d < 10 → n * 10 + d < 10 ^ 64 → decimal (n * 10 + d) ≡ decimal n ++ (48 + d) ∷ []
decimal-more n d some digit small =
    sym (long_decimal_is_decimal (n * 10 + d) small) ∙ long_decimal-more n d some digit
    ∙ ap (λ t. t ++ (48 + d) ∷ []) (long_decimal_is_decimal n (omega (arith, small)))

-- one more digit of a number with zeros before it
pub long_padded-more : (least n d : ℕ) → 1 ≤ least → d < 10
    → padded (least + 1) (long_decimal (n * 10 + d)) ≡ padded least (long_decimal n) ++ (48 + d) ∷ []
long_padded-more least zero d some digit =
    let one : long_decimal (0 * 10 + d) ≡ (48 + d) ∷ [] = ap long_decimal (omega arith) ∙ long_decimal_digit d digit in
    let none : long_decimal 0 ≡ 48 ∷ [] = long_decimal_digit 0 (omega arith) in
    let last : least - 1 + 1 ≡ least = omega (arith, some) in
    let zeros : padded least (long_decimal 0) ≡ replicate least 48 =
    ap (padded least) none ∙ replicate_more (least - 1) 48 ∙ ap (λ n. replicate n 48) last in
    ap (padded (least + 1)) one ∙ ap (λ n. replicate n 48 ++ (48 + d) ∷ []) (omega arith)
    ∙ ap (λ t. t ++ (48 + d) ∷ []) (sym zeros)
long_padded-more least (suc n) d some digit =
    ap (padded (least + 1)) (long_decimal-more (suc n) d (omega arith) digit)
    ∙ padded-push least (48 + d) (long_decimal (suc n))

pub padded-more : (least n d : ℕ) → 1 ≤ least → d < 10 → n * 10 + d < 10 ^ 64
    → padded (least + 1) (decimal (n * 10 + d)) ≡ padded least (decimal n) ++ (48 + d) ∷ []
padded-more least n d some digit small =
    ap (padded (least + 1)) (sym (long_decimal_is_decimal (n * 10 + d) small)) ∙ long_padded-more least n d some digit
    ∙ ap (λ t. padded least t ++ (48 + d) ∷ []) (long_decimal_is_decimal n (omega (arith, small)))

-- a number has a digit
pub long_decimal-some : (n : ℕ) → 1 ≤ length (long_decimal n)
long_decimal-some n = elim (cases_lt n 10) [
  | inl short ↦ rw (long_decimal_digit n short) (omega arith)
  | inr long ↦
      rw (long_decimal_step n long) (omega (arith, length-append (long_decimal (n / 10)) ((48 + n % 10) ∷ [])))
]

pub decimal-some : (n : ℕ) → n < 10 ^ 64 → 1 ≤ length (decimal n)
decimal-some n small = omega (arith, ap length (long_decimal_is_decimal n small), long_decimal-some n)

-- digits before the point and so many behind it
pub pointed-parts : (k : ℕ) (front digits : List ℕ) → length digits ≡ k
    → pointed k (front ++ digits) ≡ front ++ codes "." ++ digits
pointed-parts k front digits is =
    let at : length (front ++ digits) - k ≡ length front = omega (arith, is, length-append front digits) in
    ap (λ n. take n (front ++ digits) ++ codes "." ++ drop n (front ++ digits)) at
    ∙ ap (λ t. t ++ codes "." ++ drop (length front) (front ++ digits)) (take-append_seam front digits)
    ∙ ap (λ t. front ++ codes "." ++ t) (drop-append_seam front digits)

-- a number with a sign, without digits behind a point
pub signed_units-whole : (k : ℕ) (z : ℤ) → k ≡ 0 → signed_units_text k z ≡ signed_decimal z
signed_units-whole k (pos n) none = units-whole k n none
signed_units-whole k (negsuc n) none = ap (λ t. 45 ∷ t) (units-whole k (suc n) none)

-- a number below zero, with digits behind a point
pub signed_units-below : (k : ℕ) (z : ℤ) → k ≢ 0 → z <ℤ pos 0
    → signed_units_text k z ≡ 45 ∷ pointed k (padded (k + 1) (decimal (unsigned_abs z)))
signed_units-below k (pos n) some below = absurd (omega (arith, ints))
signed_units-below k (negsuc n) some below = ap (λ t. 45 ∷ t) (units-pointed k (suc n) some)

-- any other
pub signed_units-above : (k : ℕ) (z : ℤ) → k ≢ 0 → pos 0 ≤ℤ z
    → signed_units_text k z ≡ pointed k (padded (k + 1) (decimal (unsigned_abs z)))
signed_units-above k (pos n) some above = units-pointed k n some
signed_units-above k (negsuc n) some above = absurd (omega (arith, ints))
