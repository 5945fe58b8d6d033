-- The words of the laws on what a row shows of its key (SQL:1999: GROUPING tells ALL from null).
use Rattle.std.specs.Prelude.{◌≡◌, ◌*◌, ℕ, List, map, take}
use Rattle.cube_core.specs.Layout.{Layout, number_of_dimensions}
use Rattle.cube_core.specs.Text.{coord_text, grouping_text, row_fields}
use Rattle.cube_core.specs.declared.key.Key.{Key}
use Rattle.cube_core.specs.declared.key.Row.{Row}

-- two keys look alike: their rows show the same dimension columns and the same GROUPING columns
pub record LookAlike (a b : Key) : Type 0 where
  pub dimensions : map coord_text a.coords ≡ map coord_text b.coords
  pub groupings : map grouping_text a.coords ≡ map grouping_text b.coords

-- the fields of a row's line that show its key: the dimensions, and their GROUPING columns
abbrev pub key_columns : Layout → Row → List (List ℕ)
key_columns s row = take (2 * number_of_dimensions s) (row_fields s row)
