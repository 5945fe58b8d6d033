-- The words of the laws on the order of keys (this project's choice).
use Rattle.std.specs.Prelude.{◌≡◌, List}
use Rattle.std.specs.declared.cmp.Ordering.TheVariants.{Less}
use Rattle.cube_core.specs.Order.{key_cmp}
use Rattle.cube_core.specs.declared.key.Coord.{Coord}
use Rattle.cube_core.specs.declared.key.Key.{Key}

-- the key of these coordinates
abbrev pub key_with : List Coord → Key
key_with coords = record { coords = coords }

-- the key of the first coordinates comes before that of the second
abbrev pub ComeBefore : List Coord → List Coord → Type 0
ComeBefore coords others = key_cmp (key_with coords) (key_with others) ≡ Less
