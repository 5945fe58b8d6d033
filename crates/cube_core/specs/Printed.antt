-- The printed cube: the text of the rows of the cube over the schema's grouping sets,
-- in key order (this project's choice).
use Rattle.std.specs.Prelude.{◌≡◌, ℕ, List}
use Rattle.cube_core.specs.Layout.{Layout}
use Rattle.cube_core.specs.Cube.{AreRows}
use Rattle.cube_core.specs.Text.{text_of_rows}
use Rattle.cube_core.specs.declared.key.Row.{Row}
use Rattle.cube_core.specs.declared.fact.Fact.{Fact}

-- this text is the printed cube of these facts
pub record IsPrinted (s : Layout) (facts : List Fact) (text : List ℕ) : Type 0 where
  pub rows : List Row
  pub are_rows : AreRows s facts rows
  pub text_is : text ≡ text_of_rows s rows
