-- What a cube answers by its numbers of the counted texts is what the cube of the schema answers.
use Rattle.std.proofs.Common.{◌≡◌, ◌↔◌, ℕ, ℤ, pos, Bool, true, false, List, length, map, Contains, IsTrue, sym, ◌∙◌, subst}
use Rattle.std.specs.Prelude.{Option, Some, None}
use Rattle.std.proofs.lemmas.List.Elements.{All-contains}
use Rattle.cube_core.specs.Cube.{HasAnswers, is_cell, key_of}
use Rattle.cube_core.specs.Layout.{IsSchema, Layout}
use Rattle.cube_core.specs.Query.{AreRowsWhere}
use Rattle.cube_core.specs.Takes.{fits}
use Rattle.cube_core.specs.TextPlaces.{counted, counted_by, text_number, texts_counted}
use Rattle.cube_core.specs.declared.fact.Fact.{Fact}
use Rattle.cube_core.specs.declared.key.Key.{Key}
use Rattle.cube_core.specs.declared.key.Row.{Row}
use Rattle.cube_core.proofs.ListLaws.{AllByRecursion-Contains, Contains-AllByRecursion}
use Rattle.cube_core.proofs.TextNumberLaws.{text_number-TellsApart}
use Rattle.cube_core.proofs.TextRowLaws.{fits-measures}
use Rattle.cube_core.proofs.TextRowLaws.{HasAnswers-carried, is_cell-carried}
use Rattle.cube_cells.specs.Count.{HasCellsOver}
use Rattle.cube_cells.specs.Cube.{Lattice}
use Rattle.cube_cells.specs.Rows.{IsRowOver}
use Rattle.cube_build.specs.Builder.{HasFacts}

module _ (s : Layout) (facts : List Fact) (cube : Lattice) (has : HasFacts s facts cube) where
  -- the facts as the cube counts them
  abbrev pub numbered_facts : List Fact
  numbered_facts = map (counted_by has.number (length s.text_places)) facts

  -- the key of a cell is one
  cell : (sets : List ℕ) (dimensions : ℕ) (key : Key)
      → is_cell sets dimensions numbered_facts key ≡ is_cell sets dimensions (map (counted s) facts) key
  cell sets dimensions key =
      is_cell-carried has.number (λ text. pos (text_number text)) (length s.text_places) sets dimensions facts key

  -- the answers of a row are its answers
  answers : (row : Row) → HasAnswers s.aggregates numbered_facts row
      → HasAnswers s.aggregates (map (counted s) facts) row
  answers row =
      HasAnswers-carried has.number (λ text. pos (text_number text)) (length s.text_places) (length s.measures)
      s.aggregates facts row
      (λ fact among. fits-measures s fact (All-contains (λ f. fits s f ≡ true) facts fact has.fit among))
      has.schema.aggregates_suit has.tells_apart
      (text_number-TellsApart (texts_counted (length s.text_places) facts))

  -- the rows whose keys pass a test
  pub AreRowsWhere-carried : (test : Key → Bool) (sets : List ℕ) (dimensions : ℕ) (rows : List Row)
      → AreRowsWhere test sets dimensions s.aggregates numbered_facts rows
      → AreRowsWhere test sets dimensions s.aggregates (map (counted s) facts) rows
  AreRowsWhere-carried test sets dimensions rows are = record {
    cells = λ key. (
      λ among. let (is, passes) = (are.cells key).0 among in (sym (cell sets dimensions key) ∙ is, passes),
      λ both. (are.cells key).1 (cell sets dimensions key ∙ both.0, both.1),
    );
    ordered = are.ordered;
    answers = Contains-AllByRecursion (HasAnswers s.aggregates (map (counted s) facts)) rows (λ row among.
        answers row (AllByRecursion-Contains (HasAnswers s.aggregates numbered_facts) rows row are.answers among));
  }

  -- the row of a key
  pub IsRowOver-carried : (sets : List ℕ) (dimensions : ℕ) (key : Key) (row : Option Row)
      → IsRowOver sets dimensions s.aggregates numbered_facts key row
      → IsRowOver sets dimensions s.aggregates (map (counted s) facts) key row
  IsRowOver-carried sets dimensions key None is = sym (cell sets dimensions key) ∙ is
  IsRowOver-carried sets dimensions key (Some row) is =
      (sym (cell sets dimensions key) ∙ is.0, is.1, answers row is.2)

  -- how many cells there are
  pub HasCellsOver-carried : (sets : List ℕ) (dimensions number : ℕ)
      → HasCellsOver sets dimensions numbered_facts number → HasCellsOver sets dimensions (map (counted s) facts) number
  HasCellsOver-carried sets dimensions number cells_are = record {
    keys = cells_are.keys;
    are = record {
      cells = λ key. (
        λ among. sym (cell sets dimensions key) ∙ (cells_are.are.cells key).0 among,
        λ is. (cells_are.are.cells key).1 (cell sets dimensions key ∙ is),
      );
      once = cells_are.are.once;
    };
    many = cells_are.many;
  }
