-- Which of many inputs has the least key, where rows above a bound needn't be looked at (this project's choice).
use Rattle.std.specs.Prelude.{◌≡◌, ◌<◌, ℕ, Bool, true, false, List, Option, Some, None, get_or, length}
use Rattle.cube_core.specs.declared.key.Key.{Key}
use Rattle.cube_core.specs.declared.key.Row.{Row}
use Rattle.cube_merge.specs.Merging.{InputView, IsBelow, IsNotBelow, nothing_left}

-- of the inputs before a place that aren't behind, none has a row, or this one's key is the least
abbrev pub IsLeastIn : List InputView → List Bool → Option ℕ → ℕ → Type 0
IsLeastIn inputs behind None end =
    (k : ℕ) → k < end → get_or behind k false ≡ false → (get_or inputs k nothing_left).row ≡ None
IsLeastIn inputs behind (Some place) end =
    (place < length inputs) × (row : Row) × ((get_or inputs place nothing_left).row ≡ Some row)
    × ((k : ℕ) → k < end → get_or behind k false ≡ false → IsNotBelow row.key (get_or inputs k nothing_left))

-- a key is below the rows of the inputs that are behind
abbrev pub AreAbove : Key → List Bool → List InputView → Type 0
AreAbove key behind inputs = (k : ℕ) → get_or behind k false ≡ true → IsBelow key (get_or inputs k nothing_left)

-- an input has a row, and its key is below the rows of the inputs that are behind
abbrev pub IsInFront : List InputView → List Bool → ℕ → Type 0
IsInFront inputs behind place =
    (row : Row) × ((get_or inputs place nothing_left).row ≡ Some row) × AreAbove row.key behind inputs

-- the inputs that are behind aren't used
abbrev pub AreUnused : List Bool → List Bool → Type 0
AreUnused behind used = (k : ℕ) → get_or behind k false ≡ true → get_or used k false ≡ false
