-- How the text of the first cells grows, up to that of all cells.
use Rattle.std.proofs.Common.{◌≡◌, ◌∙◌, ℕ, ap, ◌+◌, ◌<◌, List, ◌++◌, ◌∷◌, [], length, take, get_or}
use Rattle.std.proofs.Common.{sym, append_assoc, arith}
use Rattle.std.specs.List.{AllZip, flat_map}
use Rattle.std.proofs.lemmas.Grind.{flat_map-append}
use Rattle.std.proofs.lemmas.List.Concat.{flat_map-cons}
use Rattle.std.proofs.lemmas.List.{append-nil, take_more, take_all}
use Rattle.cube_core.specs.declared.key.Key.{Key}
use Rattle.cube_core.specs.declared.key.Row.{Row}
use Rattle.cube_core.proofs.ListLaws.{AllZip-push}
use Rattle.cube_cells.specs.Rows.{CellsInOrder, IsRowOf}
use Rattle.cube_cells.specs.Tally.{Tally}
use Rattle.cube_text.specs.Rows.{AddsRow, GoesOn, RowsGoOn, line_with}

-- no row of no cell
RowsGoOn-none : (o : CellsInOrder) (from : ℕ) → RowsGoOn o from from []
RowsGoOn-none o from before are = rw (append-nil before) are

-- rows behind rows
RowsGoOn-both : (o : CellsInOrder) (from mid to : ℕ) (some more : List Row) → RowsGoOn o from mid some
    → RowsGoOn o mid to more → RowsGoOn o from to (some ++ more)
RowsGoOn-both o from mid to some more first second before are =
    rw (← append_assoc before some more) (second (before ++ some) (first before are))

-- the lines of rows, and then that of one row more
line-push : (digits : List ℕ) (rows : List Row) (row : Row) (old mid new : List ℕ)
    → mid ≡ old ++ flat_map (line_with digits) rows → new ≡ mid ++ line_with digits row
    → new ≡ old ++ flat_map (line_with digits) (rows ++ row ∷ [])
line-push digits rows row old mid new before line =
    rw (flat_map-append (line_with digits) rows (row ∷ []), flat_map-cons (line_with digits) row [], append-nil (line_with digits row))
    (line ∙ ap (λ t. t ++ line_with digits row) before
    ∙ append_assoc old (flat_map (line_with digits) rows) (line_with digits row))

-- the lines of the first rows of a list, up to one row more
pub lines-more : (digits : List ℕ) (rows : List Row) (i : ℕ) (row : Row) (old mid new : List ℕ) → i < length rows
    → row ≡ get_or rows i row → mid ≡ old ++ flat_map (line_with digits) (take i rows)
    → new ≡ mid ++ line_with digits row → new ≡ old ++ flat_map (line_with digits) (take (i + 1) rows)
lines-more digits rows i row old mid new inside is before line =
    rw (take_more rows i row inside, ← is) (line-push digits (take i rows) row old mid new before line)

-- no line for no cell
pub GoesOn-none : (digits : List ℕ) (o : CellsInOrder) (from : ℕ) (text : List ℕ)
    → GoesOn digits o from from text text
GoesOn-none digits o from text =
    record { rows = []; go_on = RowsGoOn-none o from; added = sym (append-nil text) }

-- the row of the next cell goes on
RowsGoOn-cell : (o : CellsInOrder) (at : ℕ) (unused : Key × Tally) (row : Row) → at < length o.cells
    → IsRowOf o.aggregates (get_or o.cells at unused) row → RowsGoOn o at (at + 1) (row ∷ [])
RowsGoOn-cell o at unused row inside is before are =
    rw (take_more o.cells at unused inside)
    (AllZip-push (IsRowOf o.aggregates) (take at o.cells) before (get_or o.cells at unused) row are is)

-- the line of the next cell was added
pub GoesOn-cell : (digits : List ℕ) (o : CellsInOrder) (from at : ℕ) (unused : Key × Tally) (old mid new : List ℕ)
    → at < length o.cells
    → GoesOn digits o from at old mid → AddsRow digits o.aggregates (get_or o.cells at unused) mid new
    → GoesOn digits o from (at + 1) old new
GoesOn-cell digits o from at unused old mid new inside before line = record {
  rows = before.rows ++ line.row ∷ [];
  go_on = RowsGoOn-both o from at (at + 1) before.rows (line.row ∷ []) before.go_on
      (RowsGoOn-cell o at unused line.row inside line.is_row);
  added = line-push digits before.rows line.row _ _ _ before.added line.added;
}

-- lines were added, and then more
pub GoesOn-both : (digits : List ℕ) (o : CellsInOrder) (from at to : ℕ) (old mid new : List ℕ)
    → GoesOn digits o from at old mid → GoesOn digits o at to mid new → GoesOn digits o from to old new
GoesOn-both digits o from at to old mid new first second = record {
  rows = first.rows ++ second.rows;
  go_on = RowsGoOn-both o from at to first.rows second.rows first.go_on second.go_on;
  added = second.added ∙ ap (λ t. t ++ flat_map (line_with digits) second.rows) first.added
      ∙ append_assoc old (flat_map (line_with digits) first.rows) (flat_map (line_with digits) second.rows)
      ∙ ap (λ t. old ++ t) (sym (flat_map-append (line_with digits) first.rows second.rows));
}

-- the rows of all cells
pub RowsGoOn-all : (o : CellsInOrder) (n : ℕ) (rows : List Row) → n ≡ length o.cells → RowsGoOn o 0 n rows
    → AllZip (IsRowOf o.aggregates) o.cells rows
RowsGoOn-all o n rows whole go_on = rw (take_all n o.cells (omega (arith, whole))) at (go_on [] tt)
