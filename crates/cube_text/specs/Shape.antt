-- The shape of a row: as many coordinates and answers as its schema says (this project's choice).
use Rattle.std.specs.Prelude.{◌≡◌, length}
use Rattle.cube_core.specs.Layout.{Layout, number_of_dimensions}
use Rattle.cube_core.specs.declared.key.Row.{Row}

-- a row has a coordinate for each dimension of a schema's cube and an answer for each of its aggregates
pub record HasShapeOf (s : Layout) (row : Row) : Type 0 where
  pub coords : length row.key.coords ≡ number_of_dimensions s
  pub answers : length row.answers ≡ length s.aggregates
