-- Sums of squares of whole numbers: n times it is the square of the sum, and the squares of the differences of any two.
-- An integer is read as the difference of two naturals, `up` and `down`.
use Rattle.std.proofs.Common.{◌≡◌, ℕ, suc, zero, ◌+◌, ◌-◌, ◌*◌, ◌<◌, List, [], ◌∷◌, length, sum_by, refl, sym, ◌∙◌, ap, subst, arith}
use Rattle.std.proofs.Common.{ℤ, pos, negsuc, ◌-ℤ◌, ◌*ℤ◌, unsigned_abs, ◌↔◌, Bool, Option, Some, None, MatchOption}
use Rattle.std.proofs.lemmas.Int.{ints}
use Rattle.std.proofs.lemmas.List.Sums.{sum_by-cons}
use borrow.Author.Differences.{up, down}
use Rattle.cube_core.specs.Wide.{IsReduced}
use Rattle.cube_core.specs.Group.{total_of}
use Rattle.cube_core.specs.Variance.{square, squares_of, deviations_of, freedom_of, IsVariance, gaps, spread, AllAre, AreEqual}

-- the square of a difference of two naturals
square_by : (z : ℤ) (a b : ℕ) → up z + b ≡ down z + a → square z + 2 * (a * b) ≡ a * a + b * b
square_by (pos n) a b e =
    let whole : a ≡ n + b = omega arith in
    omega (arith, ap (λ k. k * a) whole, ap (λ k. n * k) whole, ap (λ k. k * b) whole)
square_by (negsuc n) a b e =
    let whole : b ≡ suc n + a = omega arith in
    omega (arith, ap (λ k. k * b) whole, ap (λ k. n * k) whole, ap (λ k. k * a) whole)

own_square : (z : ℤ) → square z + 2 * (up z * down z) ≡ up z * up z + down z * down z
own_square z = square_by z (up z) (down z) (omega arith)

gap_square : (x y : ℤ) →
    square (x -ℤ y) + 2 * ((up x + down y) * (down x + up y))
    ≡ (up x + down y) * (up x + down y) + (down x + up y) * (down x + up y)
gap_square x y = square_by (x -ℤ y) (up x + down y) (down x + up y) (omega (arith, ints))

-- what the numbers of a list have above zero, and below
abbrev ups : List ℤ → ℕ
ups numbers = sum_by up numbers

abbrev downs : List ℤ → ℕ
downs numbers = sum_by down numbers

total_parts : (numbers : List ℤ) → up (total_of numbers) + downs numbers ≡ down (total_of numbers) + ups numbers
total_parts [] = refl
total_parts (x ∷ numbers) =
    omega (arith, ints, total_parts numbers, sum_by-cons up x numbers, sum_by-cons down x numbers)

-- one number beside one
gap_of_one : (x y : ℤ) →
    square x + square y + 2 * (up x * down y) + 2 * (down x * up y)
    ≡ 2 * (up x * up y) + 2 * (down x * down y) + square (x -ℤ y)
gap_of_one x y = omega (arith, gap_square x y, own_square x, own_square y)

gaps_step : (n sx q u d p m sy uy dy gap g p' m' q' g' : ℕ) → p' ≡ uy + p → m' ≡ dy + m → q' ≡ sy + q → g' ≡ gap + g
    → sx + sy + 2 * (u * dy) + 2 * (d * uy) ≡ 2 * (u * uy) + 2 * (d * dy) + gap
    → n * sx + q + 2 * (u * m) + 2 * (d * p) ≡ 2 * (u * p) + 2 * (d * m) + g
    → suc n * sx + q' + 2 * (u * m') + 2 * (d * p') ≡ 2 * (u * p') + 2 * (d * m') + g'
gaps_step n sx q u d p m sy uy dy gap g p' m' q' g' p_is m_is q_is g_is one others =
    rw (p_is, m_is, q_is, g_is) (omega arith)

-- one number beside those of a list
gaps_in_parts : (x : ℤ) (numbers : List ℤ) →
    length numbers * square x + squares_of numbers + 2 * (up x * downs numbers) + 2 * (down x * ups numbers)
    ≡ 2 * (up x * ups numbers) + 2 * (down x * downs numbers) + gaps x numbers
gaps_in_parts x [] = omega arith
gaps_in_parts x (y ∷ numbers) =
    gaps_step (length numbers) (square x) (squares_of numbers) (up x) (down x) (ups numbers) (downs numbers)
    (square y) (up y) (down y) (square (x -ℤ y)) (gaps x numbers) _ _ _ _
    (sum_by-cons up y numbers) (sum_by-cons down y numbers) (sum_by-cons square y numbers)
    (sum_by-cons (λ v. square (x -ℤ v)) y numbers) (gap_of_one x y) (gaps_in_parts x numbers)

spread_step : (n sx q u d p m g s p' m' q' : ℕ) → p' ≡ u + p → m' ≡ d + m → q' ≡ sx + q
    → sx + 2 * (u * d) ≡ u * u + d * d
    → n * sx + q + 2 * (u * m) + 2 * (d * p) ≡ 2 * (u * p) + 2 * (d * m) + g
    → n * q + 2 * (p * m) ≡ p * p + m * m + s
    → suc n * q' + 2 * (p' * m') ≡ p' * p' + m' * m' + (g + s)
spread_step n sx q u d p m g s p' m' q' p_is m_is q_is own one others = rw (p_is, m_is, q_is) (omega arith)

spread_in_parts : (numbers : List ℤ) →
    length numbers * squares_of numbers + 2 * (ups numbers * downs numbers)
    ≡ ups numbers * ups numbers + downs numbers * downs numbers + spread numbers
spread_in_parts [] = omega arith
spread_in_parts (x ∷ numbers) =
    spread_step (length numbers) (square x) (squares_of numbers) (up x) (down x) (ups numbers) (downs numbers)
    (gaps x numbers) (spread numbers) _ _ _ (sum_by-cons up x numbers) (sum_by-cons down x numbers)
    (sum_by-cons square x numbers) (own_square x) (gaps_in_parts x numbers) (spread_in_parts numbers)

-- n times the sum of the squares is the square of the sum, and the squares of all differences (Lagrange's identity)
pub squares_and_spread : (numbers : List ℤ) →
    length numbers * squares_of numbers ≡ square (total_of numbers) + spread numbers
squares_and_spread numbers =
    omega (
      arith,
      square_by (total_of numbers) (ups numbers) (downs numbers) (total_parts numbers),
      spread_in_parts numbers,
    )

-- ---- deviations
deviation_square : (n : ℕ) (x z : ℤ) →
    square (pos n *ℤ x -ℤ z) + 2 * ((n * up x + down z) * (n * down x + up z))
    ≡ (n * up x + down z) * (n * up x + down z) + (n * down x + up z) * (n * down x + up z)
deviation_square n x z =
    square_by (pos n *ℤ x -ℤ z) (n * up x + down z) (n * down x + up z) (omega (arith, ints))

deviation_of_one : (n : ℕ) (x z : ℤ) →
    square (pos n *ℤ x -ℤ z) + 2 * (n * (up x * up z)) + 2 * (n * (down x * down z))
    ≡ n * n * square x + 2 * (n * (up x * down z)) + 2 * (n * (down x * up z)) + square z
deviation_of_one n x z =
    omega (arith, deviation_square n x z, ap (λ k. n * n * k) (own_square x), own_square z)

deviations_step : (n uz dz z sx u d deviation p m q rest length p' m' q' rest' : ℕ) → p' ≡ u + p → m' ≡ d + m
    → q' ≡ sx + q → rest' ≡ deviation + rest
    → deviation + 2 * (n * (u * uz)) + 2 * (n * (d * dz))
    ≡ n * n * sx + 2 * (n * (u * dz)) + 2 * (n * (d * uz)) + z
    → rest + 2 * (n * (p * uz)) + 2 * (n * (m * dz))
    ≡ n * n * q + 2 * (n * (p * dz)) + 2 * (n * (m * uz)) + length * z
    → rest' + 2 * (n * (p' * uz)) + 2 * (n * (m' * dz))
    ≡ n * n * q' + 2 * (n * (p' * dz)) + 2 * (n * (m' * uz)) + suc length * z
deviations_step n uz dz z sx u d deviation p m q rest length p' m' q' rest' p_is m_is q_is rest_is one others =
    rw (p_is, m_is, q_is, rest_is) (omega arith)

deviations_in_parts : (n : ℕ) (z : ℤ) (numbers : List ℤ) →
    sum_by (λ x. square (pos n *ℤ x -ℤ z)) numbers + 2 * (n * (ups numbers * up z)) + 2 * (n * (downs numbers * down z))
    ≡ n * n * squares_of numbers + 2 * (n * (ups numbers * down z)) + 2 * (n * (downs numbers * up z))
    + length numbers * square z
deviations_in_parts n z [] = omega arith
deviations_in_parts n z (x ∷ numbers) =
    let f : ℤ → ℕ = λ y. square (pos n *ℤ y -ℤ z) in
    deviations_step n (up z) (down z) (square z) (square x) (up x) (down x) (f x) (ups numbers) (downs numbers)
    (squares_of numbers) (sum_by f numbers) (length numbers) _ _ _ _ (sum_by-cons up x numbers)
    (sum_by-cons down x numbers) (sum_by-cons square x numbers) (sum_by-cons f x numbers) (deviation_of_one n x z)
    (deviations_in_parts n z numbers)

deviations_from_parts : (n up_z down_z p m z q d : ℕ) → z + 2 * (up_z * down_z) ≡ up_z * up_z + down_z * down_z
    → up_z + m ≡ down_z + p
    → d + 2 * (n * (p * up_z)) + 2 * (n * (m * down_z))
    ≡ n * n * q + 2 * (n * (p * down_z)) + 2 * (n * (m * up_z)) + n * z
    → d + n * z ≡ n * (n * q)
deviations_from_parts n u v p m z q d square balance e =
    omega (
      arith,
      ap (λ k. n * k) square,
      ap (λ k. n * (k * u)) balance,
      ap (λ k. n * (k * v)) balance,
    )

-- the deviations, from the sum and the sum of the squares
pub deviations_and_square : (numbers : List ℤ) →
    deviations_of numbers + length numbers * square (total_of numbers)
    ≡ length numbers * (length numbers * squares_of numbers)
deviations_and_square numbers =
    let n : ℕ = length numbers in
    let z : ℤ = total_of numbers in
    deviations_from_parts n (up z) (down z) (ups numbers) (downs numbers) (square z) (squares_of numbers)
    (deviations_of numbers) (own_square z) (total_parts numbers) (deviations_in_parts n z numbers)

pub deviations_are_spread : (numbers : List ℤ) → deviations_of numbers ≡ length numbers * spread numbers
deviations_are_spread numbers =
    omega (arith, deviations_and_square numbers, ap (λ k. length numbers * k) (squares_and_spread numbers))

-- ---- where all numbers are equal
square_zero : (m : ℕ) → m * m ≡ 0 → m ≡ 0
square_zero zero e = refl
square_zero (suc m) e = absurd (omega arith)

same_from_square : (x y : ℤ) → square (x -ℤ y) ≡ 0 → y ≡ x
same_from_square x y e =
    let none : unsigned_abs (x -ℤ y) ≡ 0 = square_zero (unsigned_abs (x -ℤ y)) e in
    omega (arith, ints)

square_of_same : (x y : ℤ) → y ≡ x → square (x -ℤ y) ≡ 0
square_of_same x y e =
    let none : unsigned_abs (x -ℤ y) ≡ 0 = omega (arith, ints) in
    ap (λ k. k * k) none

same_from_gaps : (x : ℤ) (numbers : List ℤ) → gaps x numbers ≡ 0 → AllAre x numbers
same_from_gaps x [] e = tt
same_from_gaps x (y ∷ numbers) e =
    let parts : square (x -ℤ y) + gaps x numbers ≡ 0 = sym (sum_by-cons (λ v. square (x -ℤ v)) y numbers) ∙ e in
    (same_from_square x y (omega arith), same_from_gaps x numbers (omega arith))

gaps_of_same : (x : ℤ) (numbers : List ℤ) → AllAre x numbers → gaps x numbers ≡ 0
gaps_of_same x [] h = refl
gaps_of_same x (y ∷ numbers) h =
    omega (
      arith,
      sum_by-cons (λ v. square (x -ℤ v)) y numbers,
      square_of_same x y h.0,
      gaps_of_same x numbers h.1,
    )

equal_from_same : (x : ℤ) (numbers : List ℤ) → AllAre x numbers → AreEqual numbers
equal_from_same x [] h = tt
equal_from_same x (y ∷ numbers) h = subst (λ v. AllAre v numbers) (sym h.0) h.1

equal_from_spread : (numbers : List ℤ) → spread numbers ≡ 0 → AreEqual numbers
equal_from_spread [] e = tt
equal_from_spread (x ∷ numbers) e = same_from_gaps x numbers (omega arith)

spread_of_equal : (numbers : List ℤ) → AreEqual numbers → spread numbers ≡ 0
spread_of_equal [] h = refl
spread_of_equal (x ∷ numbers) h =
    omega (arith, gaps_of_same x numbers h, spread_of_equal numbers (equal_from_same x numbers h))

-- ---- the fraction
zero_from : (p m s q : ℕ) → 0 < m → p * m ≡ s * q → s ≡ 0 → p ≡ 0
zero_from zero m s q some e none = refl
zero_from (suc p) m s q some e none =
    absurd (omega (arith, ap (λ k. k * q) none))

spread_is : (numbers : List ℤ) →
    length numbers * squares_of numbers - square (total_of numbers) ≡ spread numbers
spread_is numbers = omega (arith, squares_and_spread numbers)

equal_times : (n f p q s d : ℕ) → p * (n * f) ≡ s * q → d ≡ n * s → p * (n * n * f) ≡ d * q
equal_times n f p q s d e same = omega (arith, ap (λ k. n * k) e, ap (λ k. k * q) same)

more_times : (n f : ℕ) → 0 < n * f → 0 < n * n * f
more_times zero f h = omega (arith, h)
more_times (suc n) f h = omega (arith, h)

-- the fraction of the sums is the variance
pub IsVariance-sums : (numbers : List ℤ) (is_sample : Bool) (p q : ℕ)
    → IsReduced (length numbers * squares_of numbers - square (total_of numbers))
    (length numbers * freedom_of is_sample (length numbers)) p q
    → IsVariance numbers is_sample p q
IsVariance-sums numbers is_sample p q h =
    let n : ℕ = length numbers in
    let f : ℕ = freedom_of is_sample n in
    record {
      fraction = record {
        some = more_times n f h.some;
        positive = h.positive;
        coprime = h.coprime;
        equal = equal_times n f p q (spread numbers) (deviations_of numbers)
            (h.equal ∙ ap (λ s. s * q) (spread_is numbers)) (deviations_are_spread numbers);
      };
    }

-- it is 0 exactly where all numbers are equal
pub variance_zero : (numbers : List ℤ) (m p q : ℕ)
    → IsReduced (length numbers * squares_of numbers - square (total_of numbers)) m p q
    → (p ≡ 0) ↔ AreEqual numbers
variance_zero numbers m p q h =
    let e : p * m ≡ spread numbers * q = h.equal ∙ ap (λ s. s * q) (spread_is numbers) in (
      λ none. equal_from_spread numbers (zero_from (spread numbers) q p m h.positive (sym e) none),
      λ equal. zero_from p m (spread numbers) q h.some e (spread_of_equal numbers equal),
    )

-- what holds of a value, or where there is none
pub match_weaker : {A : Type 0} (o : Option A) {P R : Type 0} {Q S : A → Type 0} → (P → R) → ((x : A) → Q x → S x)
    → MatchOption o P Q → MatchOption o R S
match_weaker None f g h = f h
match_weaker (Some x) f g h = g x h
