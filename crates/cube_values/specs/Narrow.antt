-- A list of numbers, and its bag.
use Rattle.std.specs.Prelude.{ℕ, ℤ, List, map, sum_by}
use Rattle.cube_values.specs.Bag.{Bag, one_at}

-- each number as often as it stands in the list
abbrev pub once_each : List ℤ → Bag
once_each numbers = map (λ x. (x, 1)) numbers

-- how often a number stands in a list
abbrev pub times_in : List ℤ → ℤ → ℕ
times_in numbers x = sum_by (one_at x) numbers
