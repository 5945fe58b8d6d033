-- Which facts a key covers (Gray et al. 1997, section 3: a coordinate that was aggregated over is ALL; SQL:1999:
-- all nulls of a column are one group).
use Rattle.std.specs.Prelude.{◌&&◌, ℕ, Bool, true, false, List, [], ◌∷◌, Option, Some, None}
use Rattle.std.specs.Str.{bytes_eq}
use Rattle.cube_core.specs.declared.key.Coord.{Coord}
use Rattle.cube_core.specs.declared.key.Coord.TheVariants as coord
use Rattle.cube_core.specs.declared.key.Key.{Key}
use Rattle.cube_core.specs.declared.fact.Fact.{Fact}

-- whether a coordinate stands for a value of its dimension: ALL for any, null for null alone, a text for the same text
abbrev pub stands_for : Coord → Option (List ℕ) → Bool
stands_for coord.All value = true
stands_for coord.Null None = true
stands_for coord.Null (Some text) = false
stands_for (coord.Text name) None = false
stands_for (coord.Text name) (Some text) = bytes_eq name text

-- whether there are as many coordinates as values, and each stands for its value
abbrev pub all_stand_for : List Coord → List (Option (List ℕ)) → Bool
all_stand_for [] [] = true
all_stand_for [] (_ ∷ _) = false
all_stand_for (_ ∷ _) [] = false
all_stand_for (c ∷ coords) (value ∷ values) = stands_for c value && all_stand_for coords values

-- whether a key covers a fact
abbrev pub covers : Key → Fact → Bool
covers key fact = all_stand_for key.coords fact.dims
