-- Variances of whole numbers, as SQL:2003 has them (VAR_POP, VAR_SAMP): the sum of the squares of how far the numbers are
-- from their mean, over how many there are, or over one less. They are exact: fractions.
use Rattle.std.specs.Prelude.{◌≡◌, ℕ, ◌+◌, ◌-◌, ◌*◌, List, [], ◌∷◌, length, sum_by, ℤ, pos, ◌-ℤ◌, ◌*ℤ◌, unsigned_abs, Bool, if◌then◌else◌}
use Rattle.cube_core.specs.Group.{total_of}
use Rattle.cube_core.specs.Wide.{IsReduced}

-- the square of a number
abbrev pub square : ℤ → ℕ
square x = unsigned_abs x * unsigned_abs x

-- the sum of the squares of a list of numbers
abbrev pub squares_of : List ℤ → ℕ
squares_of numbers = sum_by square numbers

-- how far the numbers are from their mean, each times how many there are, squared and added up
abbrev pub deviations_of : List ℤ → ℕ
deviations_of numbers = sum_by (λ x. square (pos (length numbers) *ℤ x -ℤ total_of numbers)) numbers

-- what the squares are divided by: how many numbers there are, or one less for a sample
abbrev pub freedom_of : Bool → ℕ → ℕ
freedom_of is_sample count = if is_sample then count - 1 else count

-- p/q in lowest terms is the variance of the numbers: the squares of how far they are from their mean, over the freedom
pub record IsVariance (numbers : List ℤ) (is_sample : Bool) (p q : ℕ) : Type 0 where
  pub fraction : IsReduced (deviations_of numbers) (length numbers * length numbers * freedom_of is_sample (length numbers)) p q

-- the squares of the differences of one number and those of a list
abbrev pub gaps : ℤ → List ℤ → ℕ
gaps x numbers = sum_by (λ y. square (x -ℤ y)) numbers

-- the squares of the differences of any two numbers of a list
abbrev pub spread : List ℤ → ℕ
spread [] = 0
spread (x ∷ numbers) = gaps x numbers + spread numbers

-- each number of a list is this one
abbrev pub AllAre : ℤ → List ℤ → Type 0
AllAre v [] = Unit {0}
AllAre v (x ∷ numbers) = (x ≡ v) × AllAre v numbers

-- all numbers of a list are equal
abbrev pub AreEqual : List ℤ → Type 0
AreEqual [] = Unit {0}
AreEqual (x ∷ numbers) = AllAre x numbers
