-- What cells under the schema of a cube say of the facts of its feeds, in the words of the feeds' schema.
use Rattle.std.proofs.Common.{◌≡◌, ◌∙◌, ℕ, ℤ, pos, Bool, true, List, length, map, ap, subst, sym}
use Rattle.std.specs.List.{list_all}
use Rattle.std.proofs.lemmas.List.Elements.{All-contains, All-map, All-weaker}
use Rattle.std.proofs.lemmas.List.Sums.{list_all-from_AllPass}
use Rattle.cube_core.specs.Cube.{HasAnswers, is_cell}
use Rattle.cube_core.specs.Layout.{Layout, cube_schema, number_of_dimensions}
use Rattle.cube_core.specs.Printed.{IsPrinted}
use Rattle.cube_core.specs.Query.{AreRowsWhere}
use Rattle.cube_core.specs.Takes.{fits}
use Rattle.cube_core.specs.TextPlaces.{counted, counted_by, text_number, texts_counted}
use Rattle.cube_core.specs.declared.fact.Fact.{Fact}
use Rattle.cube_core.specs.declared.key.Key.{Key}
use Rattle.cube_core.specs.declared.key.Row.{Row}
use Rattle.cube_core.proofs.CubeSchemaLaws.{IsPrinted-cube_schema, cube_schema-aggregates, cube_schema-dimensions}
use Rattle.cube_core.proofs.CubeSchemaLaws.{cube_schema-grouping_sets, fits-cube_schema}
use Rattle.cube_core.proofs.ListLaws.{AllByRecursion-Contains, Contains-AllByRecursion}
use Rattle.cube_core.proofs.TextNumberLaws.{text_number-TellsApart}
use Rattle.cube_core.proofs.TextRowLaws.{HasAnswers-carried, fits-measures, is_cell-carried}
use Rattle.cube_cells.specs.Count.{HasCells}
use Rattle.cube_cells.specs.Cube.{Lattice}
use Rattle.cube_cells.specs.Fill.{IsCubeOfAll}
use Rattle.cube_build.specs.Builder.{HasFacts}
use Rattle.cube_tool.specs.MaxCells.{HasCellsOf}

-- ---- the schema of the cells
-- it has the grouping sets of the feeds' schema
pub sets-cells : (s : Layout) (cells : Lattice) → cells.schema ≡ cube_schema s
    → cells.schema.grouping_sets ≡ s.grouping_sets
sets-cells s cells same = ap (λ (l : Layout). l.grouping_sets) same ∙ cube_schema-grouping_sets s

-- and as many dimensions as the cube
pub dimensions-cells : (s : Layout) (cells : Lattice) → cells.schema ≡ cube_schema s
    → length cells.schema.dimensions ≡ number_of_dimensions s
dimensions-cells s cells same = ap (λ (l : Layout). length l.dimensions) same ∙ cube_schema-dimensions s

-- its aggregates are the same
aggregates-cells : (s : Layout) (cells : Lattice) → cells.schema ≡ cube_schema s
    → cells.schema.aggregates ≡ s.aggregates
aggregates-cells s cells same = ap (λ (l : Layout). l.aggregates) same ∙ cube_schema-aggregates s

-- ---- the facts of the cells
module _ (s : Layout) (facts : List Fact) (cells : Lattice) (same : cells.schema ≡ cube_schema s)
    (has : HasFacts s facts cells) where
  -- the facts as the cells count them
  abbrev numbered : List Fact
  numbered = map (counted_by has.number (length s.text_places)) facts

  fit : list_all (fits s) facts ≡ true
  fit = list_all-from_AllPass (fits s) facts has.fit

  -- the cells are those of all of them
  all : IsCubeOfAll numbered cells
  all = record {
    fit = All-map (λ fact. fits cells.schema fact ≡ true) (counted_by has.number (length s.text_places)) facts
        (All-weaker (λ fact. fits s fact ≡ true)
        (λ fact. fits cells.schema (counted_by has.number (length s.text_places) fact) ≡ true)
        (λ fact fits_here. ap (λ l. fits l (counted_by has.number (length s.text_places) fact)) same
        ∙ fits-cube_schema s has.number fact fits_here) facts has.fit);
    cells = has.counts.cells;
    facts_are = has.counts.facts_are;
  }

  -- a key is that of a cell, whichever numbers stand for the texts that are counted
  cell : (key : Key) → is_cell s.grouping_sets (number_of_dimensions s) numbered key
      ≡ is_cell s.grouping_sets (number_of_dimensions s) (map (counted s) facts) key
  cell key = is_cell-carried has.number (λ text. pos (text_number text)) (length s.text_places) s.grouping_sets
      (number_of_dimensions s) facts key

  -- so are the answers of a row
  answers : (row : Row) → HasAnswers s.aggregates numbered row → HasAnswers s.aggregates (map (counted s) facts) row
  answers row =
      HasAnswers-carried has.number (λ text. pos (text_number text)) (length s.text_places) (length s.measures)
      s.aggregates facts row
      (λ fact among. fits-measures s fact (All-contains (λ f. fits s f ≡ true) facts fact has.fit among))
      has.schema.aggregates_suit has.tells_apart
      (text_number-TellsApart (texts_counted (length s.text_places) facts))

  carried : (test : Key → Bool) (rows : List Row)
      → AreRowsWhere test s.grouping_sets (number_of_dimensions s) s.aggregates numbered rows
      → AreRowsWhere test s.grouping_sets (number_of_dimensions s) s.aggregates (map (counted s) facts) rows
  carried test rows are = record {
    cells = λ key. (
      λ among. let (is, passes) = (are.cells key).0 among in (sym (cell key) ∙ is, passes),
      λ both. (are.cells key).1 (cell key ∙ both.0, both.1),
    );
    ordered = are.ordered;
    answers = Contains-AllByRecursion (HasAnswers s.aggregates (map (counted s) facts)) rows (λ row among.
        answers row (AllByRecursion-Contains (HasAnswers s.aggregates numbered) rows row are.answers among));
  }

  -- the rows of the cells whose keys pass a test
  pub AreRowsWhere-cells : (test : Key → Bool) (rows : List Row)
      → ((counts : List Fact) → IsCubeOfAll counts cells
      → AreRowsWhere test cells.schema.grouping_sets (length cells.schema.dimensions) cells.schema.aggregates counts
      rows)
      → AreRowsWhere test s.grouping_sets (number_of_dimensions s) s.aggregates (map (counted s) facts) rows
  AreRowsWhere-cells test rows are = carried test rows
      (rw (sets-cells s cells same, dimensions-cells s cells same, aggregates-cells s cells same) at
      (are numbered all))

  -- a text that is printed of the cells is the printed cube of the facts
  pub IsPrinted-cells : (text : List ℕ)
      → ((counts : List Fact) → IsCubeOfAll counts cells → IsPrinted cells.schema counts text)
      → IsPrinted s facts text
  IsPrinted-cells text printed =
      IsPrinted-cube_schema s has.schema has.number facts text fit has.tells_apart
      (subst (λ (l : Layout). IsPrinted l numbered text) same (printed numbered all))

  -- how many cells the cube of the facts has
  pub HasCellsOf-cells : (number : ℕ)
      → ((counts : List Fact) → IsCubeOfAll counts cells → HasCells cells.schema counts number)
      → HasCellsOf s facts number
  HasCellsOf-cells number many =
      let own = rw (sets-cells s cells same, dimensions-cells s cells same) at (many numbered all) in
      rw (cube_schema-grouping_sets s, cube_schema-dimensions s) (record {
        keys = own.keys;
        are = record {
          cells = λ key. (
            λ among. sym (cell key) ∙ (own.are.cells key).0 among,
            λ is. (own.are.cells key).1 (cell key ∙ is),
          );
          once = own.are.once;
        };
        many = own.many;
      })
