-- The levels of percentiles as texts: how long they are, and that each has one.
use Rattle.std.proofs.Common.{◌≡◌, ◌≢◌, ℕ, ◌+◌, ◌*◌, ◌/◌, ◌<◌, ◌≤◌, ◌^◌, zero, suc, List, [], ◌∷◌, ◌++◌, length}
use Rattle.std.proofs.Common.{get_or, true, arith, refl, ap, ◌∙◌, sym, length-append}
use Rattle.std.specs.List.{AllByRecursion}
use Rattle.std.proofs.Math.Nat.{one-le-pow, pow-succ'}
use Rattle.std.proofs.lemmas.Bool.Decides.{nat_tests}
use Rattle.cube_core.specs.Layout.{is_level, last_digit, level_text}

-- lists that end in one element each are the same where both parts are
pub front-same : (xs ys : List ℕ) (x y : ℕ) → xs ++ x ∷ [] ≡ ys ++ y ∷ [] → (xs ≡ ys) × (x ≡ y)
front-same [] [] x y same = (refl, cc)
front-same [] (z ∷ []) x y same = cc
front-same [] (z ∷ (w ∷ ys)) x y same = cc
front-same (z ∷ []) [] x y same = cc
front-same (z ∷ (w ∷ xs)) [] x y same = cc
front-same (z ∷ xs) (w ∷ ys) x y same =
    let heads : z ≡ w = cc in
    let tails : xs ++ x ∷ [] ≡ ys ++ y ∷ [] = cc in
    let rest = front-same xs ys x y tails in
    (rw (heads, rest.0) refl, rest.1)

-- how long a level is
pub level_text-length : (places units : ℕ) → length (level_text (suc places) units) ≡ places + 3
level_text-length zero units = refl
level_text-length (suc places) units =
    length-append (level_text (suc places) (units / 10)) (last_digit units ∷ [])
    ∙ ap (λ n. n + 1) (level_text-length places (units / 10)) ∙ omega arith

-- numbers of so many digits with one text are one
pub level_text-units : (places n m : ℕ) → n < 10 * 10 ^ places → m < 10 * 10 ^ places
    → level_text places n ≡ level_text places m → n ≡ m
level_text-units zero n m below under same =
    let last : last_digit n ≡ last_digit m = cc in
    omega (arith, last, below, under)
level_text-units (suc zero) n m below under same =
    let first : last_digit (n / 10) ≡ last_digit (m / 10) = cc in
    let last : last_digit n ≡ last_digit m = cc in
    omega (arith, first, last, below, under)
level_text-units (suc (suc places)) n m below under same =
    let parts = front-same (level_text (suc places) (n / 10)) (level_text (suc places) (m / 10))
    (last_digit n) (last_digit m) same in
    let more : 10 ^ suc (suc places) ≡ 10 * 10 ^ suc places = pow-succ' 10 (suc places) in
    let fronts = level_text-units (suc places) (n / 10) (m / 10) (omega (arith, below, more))
    (omega (arith, under, more)) parts.0 in
    omega (arith, fronts, parts.1)

-- levels with one text have as many places
level_text-places : (places digits n m : ℕ) → level_text places n ≡ level_text digits m → places ≡ digits
level_text-places zero zero n m same = refl
level_text-places zero (suc digits) n m same =
    absurd (omega (arith, ap length same, level_text-length digits m))
level_text-places (suc places) zero n m same =
    absurd (omega (arith, ap length same, level_text-length places n))
level_text-places (suc places) (suc digits) n m same =
    omega (arith, ap length same, level_text-length places n, level_text-length digits m)

-- levels in their range are levels
pub is_level-within : (units places : ℕ) → places < 0 + 5 → units < 0 + (10 ^ places + 1) → is_level units places ≡ true
is_level-within units places few most = grind (arith, nat_tests)

pub is_level-bounds : (units places : ℕ) → is_level units places ≡ true → (places < 0 + 5) × (units < 0 + (10 ^ places + 1))
is_level-bounds units places is = grind (arith, nat_tests)

-- a level is below ten to the power of its digits
is_level-below : (units places : ℕ) → is_level units places ≡ true → units < 10 * 10 ^ places
is_level-below units places is =
    let most : units ≤ 10 ^ places = grind (arith, nat_tests) in
    let some : 1 ≤ 10 ^ places = one-le-pow places 10 (omega arith) in
    omega (arith, most, some)

-- levels with one text are one
pub level_text-same : (places digits n m : ℕ) → is_level n places ≡ true → is_level m digits ≡ true
    → level_text places n ≡ level_text digits m → (places ≡ digits) × (n ≡ m)
level_text-same places digits n m lawful right same =
    let as_many = level_text-places places digits n m same in
    let under : m < 10 * 10 ^ places = rw as_many (is_level-below m digits right) in
    let one : level_text places n ≡ level_text places m = same ∙ ap (λ k. level_text k m) (sym as_many) in
    (as_many, level_text-units places n m (is_level-below n places lawful) under one)

-- all of a list, and one more
all-then : (P : ℕ → Type 0) (xs : List ℕ) (x : ℕ) → AllByRecursion P xs → P x → AllByRecursion P (xs ++ x ∷ [])
all-then P [] x all one = (one, tt)
all-then P (y ∷ xs) x all one = (all.0, all-then P xs x all.1 one)

-- no comma stands in a level
level_text-free : (places units : ℕ) → AllByRecursion (λ byte. byte ≢ 44) (level_text places units)
level_text-free zero units = (λ is. absurd (omega (arith, is)), tt)
level_text-free (suc zero) units =
    (λ is. absurd (omega (arith, is)), (λ is. absurd (omega (arith, is)), (λ is. absurd (omega (arith, is)), tt)))
level_text-free (suc (suc places)) units =
    all-then (λ byte. byte ≢ 44) (level_text (suc places) (units / 10)) (last_digit units)
    (level_text-free (suc places) (units / 10)) (λ is. absurd (omega (arith, is)))

AllByRecursion-at : (P : ℕ → Type 0) (xs : List ℕ) (i : ℕ) → AllByRecursion P xs → i < length xs → P (get_or xs i 0)
AllByRecursion-at P [] i all below = absurd (omega (arith, below))
AllByRecursion-at P (x ∷ xs) zero all below = all.0
AllByRecursion-at P (x ∷ xs) (suc i) all below = AllByRecursion-at P xs i all.1 (omega (arith, below))

pub level_text-no_comma : (places units i : ℕ) → i < length (level_text places units)
    → get_or (level_text places units) i 0 ≢ 44
level_text-no_comma places units i below =
    AllByRecursion-at (λ byte. byte ≢ 44) (level_text places units) i (level_text-free places units) below

-- a level is no empty text
pub level_text-some : (places units : ℕ) → 1 ≤ length (level_text places units)
level_text-some zero units = omega arith
level_text-some (suc places) units = omega (arith, level_text-length places units)

-- the last digit of a level
pub level_text-last : (places units : ℕ) (front : List ℕ) (last : ℕ) → level_text places units ≡ front ++ last ∷ []
    → last_digit units ≡ last
level_text-last zero units front last same = (front-same [] front (last_digit units) last same).1
level_text-last (suc zero) units front last same =
    (front-same (last_digit (units / 10) ∷ 46 ∷ []) front (last_digit units) last same).1
level_text-last (suc (suc places)) units front last same =
    (front-same (level_text (suc places) (units / 10)) front (last_digit units) last same).1

-- the first digit of a level of one place
pub level_text-first : (places units first last : ℕ) → level_text places units ≡ first ∷ 46 ∷ last ∷ []
    → last_digit (units / 10) ≡ first
level_text-first zero units first last same = cc
level_text-first (suc zero) units first last same = cc
level_text-first (suc (suc places)) units first last same =
    absurd (omega (arith, ap length same, level_text-length (suc places) units))

-- what stands before the last digit of a level: nothing, a digit and a point, or a level with a point
pub level_text-front : (places units : ℕ) (front : List ℕ) (last : ℕ) → level_text places units ≡ front ++ last ∷ []
    → 1 ≤ length front → ((byte : ℕ) → byte ∷ 46 ∷ [] ≢ front)
    → (digits : ℕ) × (level_text (suc digits) (units / 10) ≡ front)
level_text-front zero units front last same some apart =
    let empty = (front-same [] front (last_digit units) last same).0 in
    absurd (omega (arith, ap length empty, some))
level_text-front (suc zero) units front last same some apart =
    absurd (apart (last_digit (units / 10))
    (front-same (last_digit (units / 10) ∷ 46 ∷ []) front (last_digit units) last same).0)
level_text-front (suc (suc places)) units front last same some apart =
    (places, (front-same (level_text (suc places) (units / 10)) front (last_digit units) last same).0)
