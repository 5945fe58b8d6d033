-- Key order: coordinate by coordinate, texts by their bytes, then null, then ALL (this project's choice).
use Rattle.std.specs.declared.cmp.Ordering.{Ordering}
use Rattle.std.specs.declared.cmp.Ordering.TheVariants.{Less, Equal, Greater}
use Rattle.std.specs.Ordering.{nat_cmp}
use Rattle.std.specs.Cmp.Lexicographic.{slice_cmp}
use Rattle.cube_core.specs.declared.key.Coord.{Coord}
use Rattle.cube_core.specs.declared.key.Coord.TheVariants as coord
use Rattle.cube_core.specs.declared.key.Key.{Key}

-- how two coordinates compare
abbrev pub coord_cmp : Coord → Coord → Ordering
coord_cmp (coord.Text a) (coord.Text b) = slice_cmp nat_cmp a b
coord_cmp (coord.Text a) coord.Null = Less
coord_cmp (coord.Text a) coord.All = Less
coord_cmp coord.Null (coord.Text b) = Greater
coord_cmp coord.Null coord.Null = Equal
coord_cmp coord.Null coord.All = Less
coord_cmp coord.All (coord.Text b) = Greater
coord_cmp coord.All coord.Null = Greater
coord_cmp coord.All coord.All = Equal

-- how two keys compare: their first coordinates that differ decide
abbrev pub key_cmp : Key → Key → Ordering
key_cmp a b = slice_cmp coord_cmp a.coords b.coords
