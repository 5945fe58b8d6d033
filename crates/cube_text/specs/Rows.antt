-- The text of cells in an order, each printed as its row (this project's choice).
use Rattle.std.specs.Prelude.{◌≡◌, ◌+◌, ◌++◌, ◌<◌, ℕ, List, length, map, get_or, take, All}
use Rattle.std.specs.Global.{Vec}
use Rattle.std.specs.List.{AllZip, flat_map}
use Rattle.cube_core.specs.Answer.{IsAnswer}
use Rattle.cube_core.specs.Layout.{Layout}
use Rattle.cube_core.specs.Text.{answer_texts, coord_text, grouping_text, line, text_of_rows}
use Rattle.cube_core.specs.declared.aggregate.Agg.{Agg}
use Rattle.cube_core.specs.declared.aggregate.Answer.{Answer}
use Rattle.cube_core.specs.declared.aggregate.Answer.TheVariants as answer
use Rattle.cube_core.specs.declared.fact.Fact.{Fact}
use Rattle.cube_core.specs.declared.key.Key.{Key}
use Rattle.cube_core.specs.declared.key.Row.{Row}
use Rattle.cube_cells.specs.Cube.{Cells}
use Rattle.cube_cells.specs.Rows.{AreAnswersOf, AreRowsInOrder, CellsInOrder, IsRowOf}
use Rattle.cube_cells.specs.Tally.{Tally, IsTallyOf}

-- the line of a row, each of whose answers has so many digits behind its point
abbrev pub line_with : List ℕ → Row → List ℕ
line_with digits row =
    line (map coord_text row.key.coords ++ map grouping_text row.key.coords ++ answer_texts digits row.answers)

-- this is the text of the rows of cells, in their order
pub record IsTextOfCells (s : Layout) (o : CellsInOrder) (text : List ℕ) : Type 0 where
  pub rows : List Row
  pub are_rows : AreRowsInOrder o rows
  pub text_is : text ≡ text_of_rows s rows

-- a text has the line of the row of a cell more
pub record AddsRow (digits : List ℕ) (aggregates : List Agg) (cell : Key × Tally) (old new : List ℕ) : Type 0 where
  pub row : Row
  pub is_row : IsRowOf aggregates cell row
  pub added : new ≡ old ++ line_with digits row

-- put behind the rows of the first cells up to a place, these rows are those of the first cells up to another
abbrev pub RowsGoOn : CellsInOrder → ℕ → ℕ → List Row → Type 0
RowsGoOn o from to rows = (before : List Row) → AllZip (IsRowOf o.aggregates) (take from o.cells) before
    → AllZip (IsRowOf o.aggregates) (take to o.cells) (before ++ rows)

-- a text has the lines of the rows of the cells from a place to another more
pub record GoesOn (digits : List ℕ) (o : CellsInOrder) (from to : ℕ) (old new : List ℕ) : Type 0 where
  pub rows : List Row
  pub go_on : RowsGoOn o from to rows
  pub added : new ≡ old ++ flat_map (line_with digits) rows

-- the answer of an aggregate over any facts that this is the tally of
abbrev pub IsAnswerOf : Agg → Tally → Answer → Type 0
IsAnswerOf aggregate tally a = (facts : List Fact) → IsTallyOf facts tally → IsAnswer facts aggregate a

-- the answers of an aggregate for the cells from a place on
pub record IsColumn (aggregate : Agg) (cells : Cells) (from : ℕ) (column : List Answer) : Type 0 where
  pub each : (i : ℕ) (unused : Key × Tally) → i < length column
      → IsAnswerOf aggregate (get_or cells (from + i) unused).1 (get_or column i answer.Null)

-- what columns of answers have at a place
abbrev pub answers_at : List (Vec Answer) → ℕ → List Answer
answers_at columns i = map (λ column. get_or column.items i answer.Null) columns

-- columns of answers, one for each aggregate, for the cells from a place to another
pub record AreColumns (aggregates : List Agg) (cells : Cells) (from to : ℕ) (columns : List (Vec Answer)) : Type 0 where
  pub long : All (λ column. from + length column.items ≡ to) columns
  pub each : (i : ℕ) (unused : Key × Tally) → from + i < to
      → AreAnswersOf aggregates (get_or cells (from + i) unused).1 (answers_at columns i)
