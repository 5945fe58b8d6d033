-- A list of numbers of which the first are in order, and of which some were taken away.
use Rattle.std.specs.Prelude.{ℕ, ℤ, ◌≤◌, List, [], ◌∷◌, length, take, if◌then◌else◌}
use Rattle.std.specs.List.Sorted.{IsSorted}
use Rattle.std.specs.Ordering.{int_cmp, int_eq}
use Rattle.cube_values.specs.Bag.{Bag, AddsBag, AddsOne, HasEnds}
use Rattle.cube_values.specs.Narrow.{once_each}

-- the first n numbers of the list are in order
pub record IsSortedTo (numbers : List ℤ) (n : ℕ) : Type 0 where
  pub within : n ≤ length numbers
  pub sorted : IsSorted int_cmp (take n numbers)

-- the list has the numbers of the bag and those that were taken away, so many of the first of them are in order, and
-- these are the ends of the bag
pub record IsListed (bag : Bag) (numbers taken : List ℤ) (sorted : ℕ) (least greatest : ℤ) : Type 0 where
  pub same : AddsBag bag (once_each numbers) (once_each taken)
  pub order : IsSortedTo numbers sorted
  pub ends : HasEnds bag least greatest

-- the ends of the bag stay where one v goes
abbrev pub KeepsEnds : Bag → ℤ → Type 0
KeepsEnds bag v = (new : Bag) (low high : ℤ) → AddsOne new bag v → HasEnds bag low high → HasEnds new low high

-- what is left of the first list, in order, where each number of the second, in order, takes an equal one out of it
abbrev pub left_of : List ℤ → List ℤ → List ℤ
left_of [] owed = []
left_of (x ∷ numbers) [] = x ∷ numbers
left_of (x ∷ numbers) (v ∷ owed) = if int_eq v x then left_of numbers owed else x ∷ left_of numbers (v ∷ owed)
