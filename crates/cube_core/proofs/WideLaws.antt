-- Numbers of two halves: what a product, a multiple and a quotient of such numbers come to.
use Rattle.std.proofs.Common.{◌≡◌, ℕ, ◌+◌, ◌*◌, ◌/◌, ◌%◌, ◌^◌, ◌<◌, ◌≤◌, refl, sym, ◌∙◌, ap, subst, arith}
use Rattle.std.proofs.Math.Nat.{le-mul_of_pos_right, mul-le-mul_right, lt_of_mul-lt-mul_right}
use Rattle.std.proofs.lemmas.Nat.{div-add-mod', div-mul-add, mod-mul-add, mod-pow-add, mod_below, pow-add, pow_pos}

-- the product of two numbers of two digits each, from the products of the digits
product_of_digits : (b p q r s low one other lq lr oq os tq ts mq mr : ℕ) → low ≡ q * s → one ≡ p * s → other ≡ q * r
    → lq * b + lr ≡ low → oq * b + os ≡ one → tq * b + ts ≡ other → mq * b + mr ≡ lq + os + ts
    → (p * r + oq + tq + mq) * (b * b) + (mr * b + lr) ≡ (p * b + q) * (r * b + s)
product_of_digits b p q r s low one other lq lr oq os tq ts mq mr low_is one_is other_is l o t m =
    omega (
      arith,
      ap (λ k. k * b) one_is,
      ap (λ k. k * b) other_is,
      ap (λ k. k * b) o,
      ap (λ k. k * b) t,
      ap (λ k. k * b) m,
      ap (λ k. k * b) l,
    )

pub product_in_halves : (b m n : ℕ) →
    let p : ℕ = m / b in
    let q : ℕ = m % b in
    let r : ℕ = n / b in
    let s : ℕ = n % b in
    let middle : ℕ = q * s / b + p * s % b + q * r % b in
    (p * r + p * s / b + q * r / b + middle / b) * (b * b) + (middle % b * b + q * s % b) ≡ m * n
product_in_halves b m n =
    let p : ℕ = m / b in
    let q : ℕ = m % b in
    let r : ℕ = n / b in
    let s : ℕ = n % b in
    let middle : ℕ = q * s / b + p * s % b + q * r % b in
    product_of_digits b p q r s (q * s) (p * s) (q * r) (q * s / b) (q * s % b) (p * s / b) (p * s % b) (q * r / b)
    (q * r % b) (middle / b) (middle % b) refl refl refl (div-add-mod' (q * s) b) (div-add-mod' (p * s) b)
    (div-add-mod' (q * r) b) (div-add-mod' middle b)
    ∙ ap (λ k. k * (r * b + s)) (div-add-mod' m b) ∙ ap (λ k. m * k) (div-add-mod' n b)

-- a multiple of a number of two digits, from the multiples of the digits
pub multiple_of_digits : (b high low factor upper lower whole : ℕ) → high * b + low ≡ whole
    → upper * b + lower ≡ low * factor → (high * factor + upper) * b + lower ≡ whole * factor
multiple_of_digits b high low factor upper lower whole e f = omega (arith, ap (λ k. k * factor) e)

-- where that is no digit, the multiple has no place in two
pub multiple_is_long : (b high low factor upper lower whole : ℕ) → high * b + low ≡ whole
    → upper * b + lower ≡ low * factor → b ≤ high * factor + upper → b * b ≤ whole * factor
multiple_is_long b high low factor upper lower whole e f long =
    omega (
      arith,
      multiple_of_digits b high low factor upper lower whole e f,
      mul-le-mul_right b long,
    )

-- its upper digit is no larger than what a digit may be
pub multiple_fits : (b high low factor upper lower whole : ℕ) → 0 < b → high * b + low ≡ whole
    → upper * b + lower ≡ low * factor → whole * factor < b * b → high * factor + upper < b
multiple_fits b high low factor upper lower whole some e f small =
    let h : (high * factor + upper) * b < b * b
    = omega (arith, multiple_of_digits b high low factor upper lower whole e f) in
    lt_of_mul-lt-mul_right b h

-- a number of two digits is divided by dividing the upper digit, and going on with what is left
pub divided_by_digits : (b high low d q r whole : ℕ) → high * b + low ≡ whole → q * d + r ≡ high % d * b + low
    → (high / d * b + q) * d + r ≡ whole
divided_by_digits b high low d q r whole e f = omega (arith, ap (λ k. k * b) (div-add-mod' high d))

pub quotient_is : (q d r whole : ℕ) → r < d → q * d + r ≡ whole → q ≡ whole / d
quotient_is q d r whole h e = sym (div-mul-add q d r h) ∙ ap (λ k. k / d) e

pub rest_is : (q d r whole : ℕ) → r < d → q * d + r ≡ whole → r ≡ whole % d
rest_is q d r whole h e = sym (mod-mul-add q d r h) ∙ ap (λ k. k % d) e

divide_step_of : (q r d bit power low digit left t above whole : ℕ) → above ≡ power * 2 → whole ≡ bit * power + low
    → (q * d + r) * above + whole ≡ t → digit * d + left ≡ r * 2 + bit
    → ((q * 2 + digit) * d + left) * power + low ≡ t
divide_step_of q r d bit power low digit left t above whole e cut h step =
    omega (
      arith,
      ap (λ k. (q * d + r) * k) e,
      ap (λ k. k * power) step,
    )

-- one bit more of a division: places p before, k after
pub divide_step : (q r d n digit left t p k : ℕ) → p ≡ k + 1 → (q * d + r) * 2 ^ p + n % 2 ^ p ≡ t
    → digit * d + left ≡ r * 2 + n / 2 ^ k % 2 → ((q * 2 + digit) * d + left) * 2 ^ k + n % 2 ^ k ≡ t
divide_step q r d n digit left t p k e h step =
    let power : 2 ^ p ≡ 2 ^ k * 2 = ap (λ i. 2 ^ i) e ∙ pow-add 2 k 1 in
    let turned : p ≡ 1 + k = omega arith in
    let cut : n % 2 ^ p ≡ (n / 2 ^ k % 2) * 2 ^ k + n % 2 ^ k = ap (λ i. n % 2 ^ i) turned ∙ mod-pow-add n 1 k in
    divide_step_of q r d (n / 2 ^ k % 2) (2 ^ k) (n % 2 ^ k) digit left t (2 ^ p) (n % 2 ^ p) power cut h step

-- what is still to come of the quotient fits
pub room_left : (q digit m p k : ℕ) → p ≡ k + 1 → digit ≤ 1 → (q + 1) * 2 ^ p ≤ m
    → (q * 2 + digit + 1) * 2 ^ k ≤ m
room_left q digit m p k e few h =
    let power : 2 ^ p ≡ 2 ^ k * 2 = ap (λ i. 2 ^ i) e ∙ pow-add 2 k 1 in
    omega (
      arith,
      ap (λ i. (q + 1) * i) power,
      mul-le-mul_right (2 ^ k) few,
    )

pub within_room : (x k m : ℕ) → (x + 1) * 2 ^ k ≤ m → x < m
within_room x k m h = omega (arith, le-mul_of_pos_right (x + 1) (pow_pos k))

-- where no bit is left
pub divide_end : (x n t p : ℕ) → p ≡ 0 → x * 2 ^ p + n % 2 ^ p ≡ t → x ≡ t
divide_end x n t p e h =
    let last : x * 2 ^ 0 + n % 2 ^ 0 ≡ t = subst (λ i. x * 2 ^ i + n % 2 ^ i ≡ t) e h in
    omega (arith, last, mod_below n 1 (omega arith))

-- a division of a rest and 128 bits of which some places are still to come
pub record IsDivided (rest low divisor quotient left places : ℕ) : Type 0 where
  pub value : (quotient * divisor + left) * 2 ^ places + low % 2 ^ places ≡ rest * 2 ^ 128 + low
  pub left_below : left < divisor
  pub room : (quotient + 1) * 2 ^ places ≤ 2 ^ 128
  pub few : places ≤ 128
