-- Fractions of natural numbers, and the digits of long ones. It is this project's choice that a variance is a fraction
-- p/q in lowest terms with q at least 1, as a mean is.
use Rattle.std.specs.Prelude.{◌≡◌, ℕ, suc, zero, ◌+◌, ◌*◌, ◌/◌, ◌%◌, ◌<◌, List, [], ◌∷◌, ◌++◌, nat_lt, if◌then◌else◌}
use Rattle.std.specs.Int.{IsGcd}

-- p/q is the quotient of the two numbers, of which the second is not 0, and p and q have no common divisor above 1
pub record IsReduced (numerator denominator p q : ℕ) : Type 0 where
  pub some : 0 < denominator
  pub positive : 0 < q
  pub coprime : IsGcd p q 1
  pub equal : p * denominator ≡ numerator * q

-- the last k digits of a number in decimal, with zeros in front where it has fewer
unfoldable pub last_digits : ℕ → ℕ → List ℕ
last_digits zero n = []
last_digits (suc k) n = last_digits k (n / 10) ++ (48 + n % 10) ∷ []

-- the digits of a number in decimal, where it has at most k
unfoldable pub digits_within : ℕ → ℕ → List ℕ
digits_within zero n = []
digits_within (suc k) n = if nat_lt n 10 then (48 + n) ∷ [] else digits_within k (n / 10) ++ (48 + n % 10) ∷ []

-- the digits of any number in decimal, with no zero in front: those of the standard library's `decimal`, which has 64
-- digits at most
unfoldable pub long_decimal : ℕ → List ℕ
long_decimal n = digits_within (suc n) n
