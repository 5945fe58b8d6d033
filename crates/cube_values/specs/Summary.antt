-- What a summary keeps of the numbers that were added to it.
use Rattle.std.specs.Prelude.{◌≡◌, ℕ, ◌<◌, ℤ}
use Rattle.cube_values.specs.Bag.{Bag, size_of, HasEnds}

-- the bag is of this size, and where it holds a number, these are its ends
pub record IsSummary (bag : Bag) (len : ℕ) (least greatest : ℤ) : Type 0 where
  pub size : len ≡ size_of bag
  pub ends : 0 < size_of bag → HasEnds bag least greatest
