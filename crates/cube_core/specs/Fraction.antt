-- The mean of a group as a fraction (this project's choice:
-- a mean is printed as p/q in lowest terms, with q at least 1).
use Rattle.std.specs.Prelude.{◌≡◌, ℕ, ◌<◌, ℤ, pos, ◌*ℤ◌, unsigned_abs}
use Rattle.std.specs.Int.{IsGcd}

-- p/q is the quotient of total by count, and p and q have no common divisor above 1
pub record IsInLowestTerms (total : ℤ) (count : ℕ) (p : ℤ) (q : ℕ) : Type 0 where
  pub positive : 0 < q
  pub coprime : IsGcd (unsigned_abs p) q 1
  pub equal : p *ℤ pos count ≡ total *ℤ pos q
