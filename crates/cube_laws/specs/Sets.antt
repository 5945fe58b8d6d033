-- The words of the laws on grouping sets (SQL:1999, grouping sets, of which CUBE has all;
-- parts of them are this project's choice).
use Rattle.std.specs.Prelude.{◌≡◌, ◌<◌, ℕ, Bool, IsTrue, List, filter}
use Rattle.cube_core.specs.GroupingSet.{mask_of, is_among}
use Rattle.cube_core.specs.declared.key.Row.{Row}

-- the rows whose grouping set is one of these, in their order
abbrev pub rows_in : List ℕ → List Row → List Row
rows_in sets rows = filter (λ row. is_among (mask_of row.key) sets) rows

-- a test holds of one number below n, and of no other number
abbrev pub IsTrueOfOne : ℕ → (ℕ → Bool) → Type 0
IsTrueOfOne n test = (j : ℕ) × (j < n) × IsTrue (test j) × ((k : ℕ) → IsTrue (test k) → k ≡ j)
