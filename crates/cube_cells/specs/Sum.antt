-- The sum of the numbers of a bag (SQL:1999, SUM), and what a kept sum is.
use Rattle.std.specs.Prelude.{◌≡◌, ◌<◌, ◌+ℤ◌, ◌*ℤ◌, ℤ, pos, [], ◌∷◌, FitsSigned}
use Rattle.std.specs.Int.{w64}
use Rattle.cube_values.specs.Bag.{Bag, held_of}

-- the sum of the numbers, each as often as it is held: over the pairs, the number times its count
abbrev pub sum_of : Bag → ℤ
sum_of [] = pos 0
sum_of (pair ∷ bag) = pair.0 *ℤ pos pair.1 +ℤ sum_of bag

-- this is the sum of the bag, whose numbers are measures: they fit 64 bits
pub record IsSumOf (bag : Bag) (sum : ℤ) : Type 0 where
  pub is_sum : sum ≡ sum_of bag
  pub fits : (x : ℤ) → 0 < held_of bag x → FitsSigned w64 x
