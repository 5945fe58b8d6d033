-- What the sales of a shop are in the words of the library (this project's choice).
use Rattle.std.specs.Prelude.{◌++◌, ◌∷◌, [], ℕ, ℤ, List, Option, Some, Ok}
use Rattle.cube_library.specs.Arrival.{Arrivals}
use Rattle.cube_library.specs.Change.{Change}
use Rattle.cube_library.specs.Fact.{Fact}
use Rattle.cube_library.specs.Builder.{BuilderView, StandsAt}

-- the fact of a sale: the values of its dimensions and of its measure
abbrev pub sale : Option (List ℕ) → List ℕ → ℤ → Fact
sale city product cents = record { dims = city ∷ Some product ∷ []; measures = Some cents ∷ [] }

-- a builder takes a change as the item of this number, of source 1:
-- where it stood at items before, it stands at these and that one
abbrev pub TakesSale : ℕ → Change → BuilderView → BuilderView → Type 0
TakesSale number change old new =
    (arrivals : Arrivals) → StandsAt old arrivals
    → StandsAt new (arrivals ++ (1, record { number = number; what = Ok change }) ∷ [])
