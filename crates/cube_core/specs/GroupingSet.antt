-- Grouping sets: the set of dimensions that aren't ALL in a key, written as a mask (SQL:1999, grouping sets;
-- the masks are this project's choice).
use Rattle.std.specs.Prelude.{◌+◌, ◌*◌, ◌/◌, ◌^◌, ◌%◌, ◌==◌, ℕ, Bool, true, false, IsTrue, List, [], ◌∷◌, filter}
use Rattle.std.specs.Prelude.{slice_get, if◌then◌else◌}
use Rattle.std.specs.Option.{option_map_or}
use Rattle.std.specs.List.{AllByRecursion, range_with_len, list_any}
use Rattle.cube_core.specs.declared.key.Coord.{Coord}
use Rattle.cube_core.specs.declared.key.Coord.TheVariants as coord
use Rattle.cube_core.specs.declared.key.Key.{Key}

-- whether a coordinate is ALL
abbrev pub is_all_coord : Coord → Bool
is_all_coord (coord.Text name) = false
is_all_coord coord.Null = false
is_all_coord coord.All = true

-- whether a key is ALL at a place; not past its end
abbrev pub is_all_at : Key → ℕ → Bool
is_all_at key place = option_map_or is_all_coord (slice_get key.coords place) false

-- the mask of coordinates: the sum of 2 to the power d over each place d, from 0, that isn't ALL
abbrev pub mask_of_coords : List Coord → ℕ
mask_of_coords [] = 0
mask_of_coords (c ∷ coords) = (if is_all_coord c then 0 else 1) + 2 * mask_of_coords coords

-- the mask of a key's grouping set
abbrev pub mask_of : Key → ℕ
mask_of key = mask_of_coords key.coords

-- all grouping sets of so many dimensions
abbrev pub all_sets : ℕ → List ℕ
all_sets dimensions = range_with_len 0 (2 ^ dimensions)

-- the part, of n, that a grouping set is in:
-- its mask and the whole quotient of it by n, added, modulo n (this project's choice)
abbrev pub part_of : ℕ → ℕ → ℕ
part_of n set = (set + set / n) % n

-- the grouping sets of part j of n
abbrev pub sets_of_part : ℕ → ℕ → List ℕ → List ℕ
sets_of_part j n sets = filter (λ set. part_of n set == j) sets

-- whether a grouping set is one of a list
abbrev pub is_among : ℕ → List ℕ → Bool
is_among set sets = list_any (λ other. other == set) sets

-- each of these sets is among others
abbrev pub AreAmong : List ℕ → List ℕ → Type 0
AreAmong sets others = AllByRecursion (λ set. IsTrue (is_among set others)) sets
