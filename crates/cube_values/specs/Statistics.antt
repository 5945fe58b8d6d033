-- Statistics of the numbers of a bag, each counted as often as it is held.
use Rattle.std.specs.Prelude.{◌≡◌, ℕ, ◌<◌, ◌≤◌, ◌<ℤ◌, ◌+ℤ◌, pos, ℤ, List, All, if◌then◌else◌, int_lt, nat_lt, length}
use Rattle.std.specs.Int.{w64}
use Rattle.std.specs.Int.RustNames.{FitsSigned}
use Rattle.std.specs.List.{AllPairs}
use Rattle.cube_core.specs.Variance.{square}
use Rattle.cube_values.specs.Bag.{Bag, SameHeld, weight_of, held_of}
use Rattle.cube_values.specs.Narrow.{times_in}

-- 1 where x is below v, else 0
abbrev pub one_below : ℤ → ℤ → ℕ
one_below v x = if int_lt x v then 1 else 0

-- 1 where x is at most v, else 0
abbrev pub one_up_to : ℤ → ℤ → ℕ
one_up_to v x = if int_lt v x then 0 else 1

-- how many of the numbers are below v (this project's choice)
abbrev pub size_below : Bag → ℤ → ℕ
size_below bag v = weight_of (one_below v) bag

-- how many of the numbers are at most v (this project's choice)
abbrev pub size_up_to : Bag → ℤ → ℕ
size_up_to bag v = weight_of (one_up_to v) bag

-- the sum of the squares of the numbers (SQL:2003 makes variances of it)
abbrev pub squares_held : Bag → ℕ
squares_held bag = weight_of square bag

-- v stands at place k, counted from 1, of the numbers in order: fewer than k of them are below v, and at least k are at
-- most v (where SQL:2003 has the value of a `PERCENTILE_DISC`)
pub record IsAtPlace (bag : Bag) (k : ℕ) (v : ℤ) : Type 0 where
  pub below : size_below bag v < k
  pub up_to : k ≤ size_up_to bag v

-- these pairs are the numbers of the bag in order: they ascend strictly, each is held once at least, and as often in the
-- pairs as in the bag (this project's choice)
pub record AreInOrder (bag pairs : Bag) : Type 0 where
  pub ascending : AllPairs (λ e f. e.0 <ℤ f.0) pairs
  pub some : All (λ e. 0 < e.1) pairs
  pub same : SameHeld bag pairs

-- these are the different numbers of the bag: one that is held stands in the list once, and no other stands there (this
-- project's choice)
pub record AreDifferent (bag : Bag) (numbers : List ℤ) : Type 0 where
  pub once : (x : ℤ) → times_in numbers x ≡ (if nat_lt 0 (held_of bag x) then 1 else 0)

-- so many different numbers are held (SQL:2003 has it as `COUNT(DISTINCT)`)
pub record HasDifferent (bag : Bag) (n : ℕ) : Type 0 where
  pub numbers : List ℤ
  pub are : AreDifferent bag numbers
  pub many : n ≡ length numbers

-- the number at place k is `low` or one of so many above it, all of which are numbers of 64 bits
pub record IsSpanOf (bag : Bag) (k : ℕ) (low : ℤ) (width : ℕ) : Type 0 where
  pub below : size_below bag low < k
  pub up_to : k ≤ size_up_to bag (low +ℤ pos width)
  pub fits : FitsSigned w64 (low +ℤ pos width)
