-- Whose rows are joined (this project's choice).
use Rattle.std.specs.Prelude.{◌≡◌, ◌<◌, ℕ, Bool, true, false, List, [], ◌∷◌, Some, length, option_to_list, get_or}
use Rattle.std.specs.List.{AllByRecursion, flat_map}
use Rattle.cube_core.specs.declared.key.Row.{Row}
use Rattle.cube_merge.specs.Merging.{InputView, nothing_left}

-- an input has a row
abbrev pub HasRow : InputView → Type 0
HasRow input = (row : Row) × (input.row ≡ Some row)

-- the rows of the inputs at these places
abbrev pub rows_of : List InputView → List ℕ → List Row
rows_of inputs places = flat_map (λ place. option_to_list (get_or inputs place nothing_left).row) places

-- each of these is the place of an input that has a row
abbrev pub HaveRows : List InputView → List ℕ → Type 0
HaveRows inputs places =
    AllByRecursion (λ place. (place < length inputs) × HasRow (get_or inputs place nothing_left)) places

-- a place, where it is used
abbrev pub place_where : ℕ → Bool → List ℕ
place_where place true = place ∷ []
place_where place false = []
