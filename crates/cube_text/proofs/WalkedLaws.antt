-- Laws of the rows of a walk: those of its cells, one after another, are the printed cube.
use Rattle.std.proofs.Common.{◌≡◌, ◌∙◌, ◌++◌, ◌<◌, ◌≤◌, ◌∷◌, [], ℕ, List, length, get_or, map, refl, sym, ap, subst}
use Rattle.std.proofs.Common.{append_assoc, arith, suc}
use Rattle.std.specs.Global.{Vec}
use Rattle.std.specs.List.{AllZip, flat_map, list_any}
use Rattle.std.specs.Prelude.{All, IfOk, Ok, Result, ◌||◌}
use Rattle.std.specs.declared.alloc.AllocError.{AllocError}
use Rattle.std.proofs.Math.Seq.{drop-append_seam, take-append_seam}
use Rattle.std.proofs.lemmas.Bool.{and_parts}
use Rattle.std.proofs.lemmas.Grind.{flat_map-append}
use Rattle.std.proofs.lemmas.List.{append-nil, get_or-map, length-map, map-append}
use Rattle.std.proofs.lemmas.List.Elements.{All-drop, All-head, All-tail, All-take}
use Rattle.std.proofs.lemmas.List.Sums.{list_all-from_AllPass}
use Rattle.cube_core.specs.Covers.{covers}
use Rattle.cube_core.specs.Cube.{is_total}
use Rattle.cube_core.specs.GroupingSet.{is_among, mask_of}
use Rattle.cube_core.specs.Layout.{IsSchema}
use Rattle.cube_core.specs.Takes.{fits}
use Rattle.cube_core.specs.Text.{digits_of_answers, header_fields, line}
use Rattle.cube_core.specs.declared.fact.Fact.{Fact}
use Rattle.cube_core.specs.declared.key.Key.{Key}
use Rattle.cube_core.specs.declared.key.Row.{Row}
use Rattle.cube_core.proofs.CellKeyLaws.{is_cell-length}
use Rattle.cube_core.proofs.ListLaws.{AllZip-append}
use Rattle.cube_cells.specs.BottomUp.{AreCellsOfCube, TakesAll, TakesCube}
use Rattle.cube_cells.specs.Codes.{key_at}
use Rattle.cube_cells.specs.Coded.{CodedCells, decoded}
use Rattle.cube_cells.specs.Cube.{Lattice}
use Rattle.cube_cells.specs.Fill.{IsCubeOfAll}
use Rattle.cube_cells.specs.Rows.{IsRowOf}
use Rattle.cube_cells.specs.Tally.{Tally}
use Rattle.cube_cells.specs.WalkParts.{AreCellsOfPart, ArePartsOfCube, PartOfWalk, TakesPart, put_together}
use Rattle.cube_cells.specs.declared.cube.codes.Codes.{Codes}
use Rattle.cube_cells.proofs.Codes.KeyLaws.{length-coords_at}
use Rattle.cube_text.specs.Brief.{AddsBrief, ArePrintedRows, Brief, RowsOver, TakesRow, brief_line, brief_text, rows_of}
use Rattle.cube_text.specs.Rows.{line_with}
use Rattle.cube_text.specs.Walked.{AreRowsOfPart, IsShowable, IsTextOfRows}
use Rattle.cube_text.proofs.BriefLaws.{brief_line-IsEnding, brief_text-append, rows_of-append}

-- ---- rows
-- cells that were taken have rows, whose lines were added
pub record AddsRows (finest : Lattice) (cells : CodedCells) (old new : List ℕ) : Type 0 where
  pub rows : List Row
  pub are : AllZip (IsRowOf finest.schema.aggregates) (decoded finest.dictionaries cells) rows
  pub added : new ≡ old ++ flat_map (line_with (digits_of_answers finest.schema)) rows

pub AddsRows-TakesAll : (finest : Lattice) (cells : CodedCells) (old new : RowsOver) → old.finest ≡ finest
    → TakesAll TakesRow old cells new → All (IsShowable finest) cells
    → AddsRows finest cells (brief_text finest.dictionaries old.rows) (brief_text finest.dictionaries new.rows)
AddsRows-TakesAll finest [] old new is taken showable = record {
  rows = [];
  are = tt;
  added = ap (λ (r : RowsOver). brief_text finest.dictionaries r.rows) taken
      ∙ sym (append-nil (brief_text finest.dictionaries old.rows));
}
AddsRows-TakesAll finest (cell ∷ cells) old new is taken showable =
    let text : Brief → List ℕ = brief_text finest.dictionaries in
    let digits = digits_of_answers finest.schema in
    let can = All-head (IsShowable finest) cell cells showable in
    let P : Lattice → Type 0 = λ l. length cell.1.bags ≡ length l.schema.measures
    → AddsBrief l.schema cell.0 cell.1 old.rows taken.0.rows in
    let adds = subst P is taken.1.adds can.width in
    let row : Row = record { key = key_at finest.dictionaries cell.0.codes; answers = adds.is.answers } in
    let one : Codes × List ℕ = (cell.0, adds.ending) in
    let shows : text taken.0.rows ≡ text old.rows ++ line_with digits row =
    ap text adds.added ∙ brief_text-append finest.dictionaries old.rows (one ∷ [])
    ∙ ap (λ (t : List ℕ). text old.rows ++ t) (append-nil (brief_line finest.dictionaries one)
    ∙ brief_line-IsEnding finest.schema finest.dictionaries cell.0 cell.1 adds.ending adds.is can.some) in
    let later = AddsRows-TakesAll finest cells taken.0 new (taken.1.same ∙ is) taken.2
    (All-tail (IsShowable finest) cell cells showable) in
    let lines : List Row → List ℕ = flat_map (line_with digits) in
    record {
      rows = row ∷ later.rows;
      are = (record { key = refl; answers = adds.is.are }, later.are);
      added = later.added ∙ ap (λ (t : List ℕ). t ++ lines later.rows) shows
          ∙ append_assoc (text old.rows) (line_with digits row) (lines later.rows);
    }

-- ---- the cells of a cube can be shown
some_coordinate : (finest : Lattice) (cells : CodedCells) (facts : List Fact) → AreCellsOfCube finest cells
    → IsSchema finest.schema → IsCubeOfAll facts finest → 0 < length cells → 1 ≤ length finest.dictionaries
some_coordinate finest [] facts cube schema all some = absurd (omega (arith, some))
some_coordinate finest (cell ∷ cells) facts cube schema all some =
    let s = finest.schema in
    let key : Key = key_at finest.dictionaries cell.0.codes in
    let is = ((cube.keys facts all).cells key).0 (0, omega arith, refl) in
    let parts = and_parts (is_among (mask_of key) s.grouping_sets)
    (is_total (length s.dimensions) key || list_any (covers key) facts) is in
    let wide : length key.coords ≡ length s.dimensions =
    is_cell-length s facts key (list_all-from_AllPass (fits s) facts all.fit) parts.1 in
    omega (arith, wide, length-coords_at finest.dictionaries cell.0.codes, schema.some_dimension)

IsShowable-cube : (finest : Lattice) (cells : CodedCells) (facts : List Fact) → AreCellsOfCube finest cells
    → IsSchema finest.schema → IsCubeOfAll facts finest → All (IsShowable finest) cells
IsShowable-cube finest cells facts cube schema all = λ i unused inside. record {
  some = some_coordinate finest cells facts cube schema all (omega (arith, inside));
  width = (cube.each i unused inside).width;
}

-- behind the header, the rows that were added for them are the printed cube
ArePrintedRows-AddsRows : (finest : Lattice) (cells : CodedCells) (rows : Brief) → IsSchema finest.schema
    → AreCellsOfCube finest cells
    → (All (IsShowable finest) cells → IsTextOfRows finest cells (brief_text finest.dictionaries rows))
    → ArePrintedRows finest rows
ArePrintedRows-AddsRows finest cells rows schema cube shows facts all =
    let made = shows (IsShowable-cube finest cells facts cube schema all) in
    record {
      rows = made.rows;
      are_rows = cube.rows facts all made.rows made.are;
      text_is = ap (λ (t : List ℕ). line (header_fields finest.schema) ++ t) made.text_is;
    }

-- the rows of a walk
IsTextOfRows-TakesAll : (finest : Lattice) (cells : CodedCells) (old new : RowsOver)
    → old ≡ record { finest = finest; rows = [] } → TakesAll TakesRow old cells new → All (IsShowable finest) cells
    → IsTextOfRows finest cells (brief_text finest.dictionaries new.rows)
IsTextOfRows-TakesAll finest cells old new is taken showable =
    let adds = AddsRows-TakesAll finest cells old new (ap (λ (r : RowsOver). r.finest) is) taken showable in
    record {
      rows = adds.rows;
      are = adds.are;
      text_is = adds.added ∙ ap (λ (r : RowsOver). brief_text finest.dictionaries r.rows
          ++ flat_map (line_with (digits_of_answers finest.schema)) adds.rows) is;
    }

pub ArePrintedRows-TakesCube : (finest : Lattice) (old new : RowsOver) → IsSchema finest.schema
    → old ≡ record { finest = finest; rows = [] } → TakesCube TakesRow finest old new → ArePrintedRows finest new.rows
ArePrintedRows-TakesCube finest old new schema is walk =
    ArePrintedRows-AddsRows finest walk.cells new.rows schema walk.are
    (IsTextOfRows-TakesAll finest walk.cells old new is walk.taken)

-- ---- parts
-- the rows of a walk over a part
pub AreRowsOfPart-TakesPart : (finest : Lattice) (part : PartOfWalk) (old new : RowsOver)
    → old ≡ record { finest = finest; rows = [] } → TakesPart TakesRow part old new → AreRowsOfPart finest part new.rows
AreRowsOfPart-TakesPart finest part old new is walk = record {
  cells = walk.cells;
  are = walk.are;
  text_is = IsTextOfRows-TakesAll finest walk.cells old new is walk.taken;
}

-- the rows of parts, one part behind the other
pub record AreRowsOfParts (finest : Lattice) (parts : List PartOfWalk) (rows : Brief) : Type 0 where
  pub lists : List CodedCells
  pub are : AllZip AreCellsOfPart parts lists
  pub text_is : All (IsShowable finest) (put_together lists)
      → IsTextOfRows finest (put_together lists) (brief_text finest.dictionaries rows)

-- the pieces of lists, one list behind the other
abbrev pub pieces_of : List (Vec Brief) → List Brief
pieces_of lists = flat_map (λ list. list.items) lists

pub AreRowsOfParts-each : (finest : Lattice) (parts : List PartOfWalk) (lists : List (Vec Brief))
    → length lists ≡ length parts
    → ((i : ℕ) (part : PartOfWalk) (list : Vec Brief) → i < length parts
    → AreRowsOfPart finest (get_or parts i part) (rows_of (get_or lists i list).items))
    → AreRowsOfParts finest parts (rows_of (pieces_of lists))
AreRowsOfParts-each finest [] [] long each =
    record { lists = []; are = tt; text_is = λ _. record { rows = []; are = tt; text_is = refl } }
AreRowsOfParts-each finest [] (list ∷ lists) long each = absurd (omega (arith, long))
AreRowsOfParts-each finest (part ∷ parts) [] long each = absurd (omega (arith, long))
AreRowsOfParts-each finest (part ∷ parts) (list ∷ lists) long each =
    let here = each 0 part list (omega arith) in
    let rest = AreRowsOfParts-each finest parts lists (omega (arith, long))
    (λ i one other inside. each (suc i) one other (omega (arith, inside))) in
    let lines : List Row → List ℕ = flat_map (line_with (digits_of_answers finest.schema)) in
    let text : Brief → List ℕ = brief_text finest.dictionaries in
    let more : CodedCells = put_together rest.lists in
    let both : text (rows_of (pieces_of (list ∷ lists))) ≡ text (rows_of list.items) ++ text (rows_of (pieces_of lists)) =
    ap text (rows_of-append list.items (pieces_of lists))
    ∙ brief_text-append finest.dictionaries (rows_of list.items) (rows_of (pieces_of lists)) in
    record {
      lists = here.cells ∷ rest.lists;
      are = (here.are, rest.are);
      text_is = λ showable.
          let first = here.text_is (subst (All (IsShowable finest)) (take-append_seam here.cells more)
          (All-take (IsShowable finest) (length here.cells) (here.cells ++ more) showable)) in
          let second = rest.text_is (subst (All (IsShowable finest)) (drop-append_seam here.cells more)
          (All-drop (IsShowable finest) (length here.cells) (here.cells ++ more) showable)) in
          record {
            rows = first.rows ++ second.rows;
            are = rw (map-append {B = Key × Tally} (λ (cell : Codes × Tally). (key_at finest.dictionaries cell.0.codes, cell.1)) here.cells more)
                (AllZip-append (IsRowOf finest.schema.aggregates) (decoded finest.dictionaries here.cells)
                (decoded finest.dictionaries more) first.rows second.rows first.are second.are);
            text_is = both ∙ ap (λ (t : List ℕ). t ++ text (rows_of (pieces_of lists))) first.text_is
                ∙ ap (λ (t : List ℕ). lines first.rows ++ t) second.text_is
                ∙ sym (flat_map-append (line_with (digits_of_answers finest.schema)) first.rows second.rows);
          };
    }

-- what was made of the parts
pub AreRowsOfParts-made : (finest : Lattice) (parts : List PartOfWalk) (lists : List (Vec Brief))
    (made : List (Result (Vec Brief) AllocError)) → map Ok lists ≡ made → length made ≡ length parts
    → ((i : ℕ) (unused : Result (Vec Brief) AllocError) (part : PartOfWalk) → i < length parts
    → IfOk (get_or made i unused) (λ pieces. AreRowsOfPart finest (get_or parts i part) (rows_of pieces.items)))
    → AreRowsOfParts finest parts (rows_of (pieces_of lists))
AreRowsOfParts-made finest parts lists made are long each =
    let count : length lists ≡ length parts = sym (length-map lists Ok)
    ∙ ap (λ (l : List (Result (Vec Brief) AllocError)). length l) are ∙ long in
    AreRowsOfParts-each finest parts lists count (λ i part list inside.
    let one : get_or made i (Ok list) ≡ Ok (get_or lists i list) =
    rw (← are) (get_or-map Ok lists i list (Ok list) (omega (arith, inside, count))) in
    rw one at (each i (Ok list) part inside))

pub ArePrintedRows-parts : (finest : Lattice) (parts : List PartOfWalk) (rows : Brief) → IsSchema finest.schema
    → AreRowsOfParts finest parts rows → ArePartsOfCube finest parts → ArePrintedRows finest rows
ArePrintedRows-parts finest parts rows schema made cube =
    ArePrintedRows-AddsRows finest (put_together made.lists) rows schema (cube.give made.lists made.are) made.text_is
