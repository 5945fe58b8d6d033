-- The answers of a cell in the text of its row, and the rows of the cells of a walk (this project's choice).
use Rattle.std.specs.Prelude.{◌≡◌, ◌≤◌, ℕ, List, All, length}
use Rattle.std.specs.List.{AllZip, flat_map}
use Rattle.cube_core.specs.Layout.{Layout}
use Rattle.cube_core.specs.Text.{answer_texts, digits_of_answers}
use Rattle.cube_core.specs.declared.aggregate.Answer.{Answer}
use Rattle.cube_core.specs.declared.key.Row.{Row}
use Rattle.cube_cells.specs.Coded.{CodedCells, decoded}
use Rattle.cube_cells.specs.Cube.{Lattice}
use Rattle.cube_cells.specs.Rows.{AreAnswersOf, IsRowOf}
use Rattle.cube_cells.specs.Tally.{Tally}
use Rattle.cube_cells.specs.WalkParts.{AreCellsOfPart, PartOfWalk}
use Rattle.cube_cells.specs.declared.cube.codes.Codes.{Codes}
use Rattle.cube_lines.specs.Parts.{AddsParts}
use Rattle.cube_text.specs.Brief.{Brief, brief_text}
use Rattle.cube_text.specs.Rows.{line_with}

-- the texts of a cell's answers were put at the end of a text, each with a comma
pub record AddsAnswers (s : Layout) (cell : Tally) (old new : List ℕ) : Type 0 where
  pub answers : List Answer
  pub long : length answers ≡ length s.aggregates
  pub are : AreAnswersOf s.aggregates cell answers
  pub added : AddsParts (answer_texts (digits_of_answers s) answers) old new

-- cells have rows, and this is the text of their lines
pub record IsTextOfRows (finest : Lattice) (cells : CodedCells) (text : List ℕ) : Type 0 where
  pub rows : List Row
  pub are : AllZip (IsRowOf finest.schema.aggregates) (decoded finest.dictionaries cells) rows
  pub text_is : text ≡ flat_map (line_with (digits_of_answers finest.schema)) rows

-- a cell can be shown: its key has a coordinate, and it has a bag for each measure
pub record IsShowable (finest : Lattice) (cell : Codes × Tally) : Type 0 where
  pub some : 1 ≤ length finest.dictionaries
  pub width : length cell.1.bags ≡ length finest.schema.measures

-- these are the rows of the cells of a part of a walk
pub record AreRowsOfPart (finest : Lattice) (part : PartOfWalk) (rows : Brief) : Type 0 where
  pub cells : CodedCells
  pub are : AreCellsOfPart part cells
  pub text_is : All (IsShowable finest) cells → IsTextOfRows finest cells (brief_text finest.dictionaries rows)
