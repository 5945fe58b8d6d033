-- A coordinate whose text is read where it lies (this project's choice).
use Rattle.cube_core.specs.declared.key.Coord.{Coord}
use Rattle.cube_core.specs.declared.key.Coord.TheVariants as coord
use Rattle.cube_core.specs.declared.key.CoordRef.{CoordRef}
use Rattle.cube_core.specs.declared.key.CoordRef.TheVariants as reference

-- the coordinate that this refers to
abbrev pub referred_coord : CoordRef → Coord
referred_coord (reference.Text text) = coord.Text text.now
referred_coord reference.Null = coord.Null
referred_coord reference.All = coord.All
