-- A builder: the ledger of all sources, and the cube of the facts in its books (this project's choice).
use Rattle.std.specs.Prelude.{◌≡◌, ◌++◌, ℕ, ℤ, List, length, map}
use Rattle.cube_core.specs.Arrival.{Arrivals}
use Rattle.cube_core.specs.Layout.{IsSchema, Layout, cube_schema}
use Rattle.cube_core.specs.TextPlaces.{TellsApart, counted_by, texts_counted}
use Rattle.cube_core.specs.declared.fact.Fact.{Fact}
use Rattle.cube_cells.specs.CountedCube.{CountedView, HasCounted}
use Rattle.cube_cells.specs.Cube.{Lattice, IsCubeOf, SameCells, SameSets}
use Rattle.cube_ledger.specs.Ledger.{AllFit, LedgerView, LedgerStandsAt, all_facts}

-- the books and the refusals of all sources, and the cells
pub record BuilderView : Type 0 where
  pub ledger : LedgerView
  pub cube : Lattice

-- the cube counts these facts: its cells are their cube over its sets, and it has so many
pub record CountsFacts (facts : List Fact) (cube : Lattice) : Type 0 where
  pub cells : IsCubeOf cube facts
  pub facts_are : cube.facts ≡ length facts

-- the cube has these facts of the feeds of a schema: they fit it, and the cube counts them, with numbers for their counted
-- texts that tell these apart
pub record HasFacts (s : Layout) (facts : List Fact) (cube : Lattice) : Type 0 where
  pub schema : IsSchema s
  pub fit : AllFit s facts
  pub number : List ℕ → ℤ
  pub tells_apart : TellsApart number (texts_counted (length s.text_places) facts)
  pub counts : CountsFacts (map (counted_by number (length s.text_places)) facts) cube

-- a counted cube is for facts of the feeds of a schema: it is under the schema of their cube, and counts as many texts
pub record IsCountedFor (s : Layout) (cube : CountedView) : Type 0 where
  pub lawful : IsSchema s
  pub schema : cube.cube.schema ≡ cube_schema s
  pub texts : cube.texts ≡ length s.text_places

-- what is true of every builder: its cube is for facts of its schema's feeds, and has those of all books, which fit
pub record IsBuilder (ledger : LedgerView) (cube : CountedView) : Type 0 where
  pub over : IsCountedFor ledger.schema cube
  pub fit : AllFit ledger.schema (all_facts ledger.accounts)
  pub has : HasCounted (all_facts ledger.accounts) cube

-- a builder stands at an arrival list: its ledger does, and its cube has the facts of all books
pub record StandsAt (builder : BuilderView) (arrivals : Arrivals) : Type 0 where
  pub ledger : LedgerStandsAt builder.ledger arrivals
  pub cube : HasFacts builder.ledger.schema (all_facts builder.ledger.accounts) builder.cube

-- books and refusals are the same, and the cells count the same
pub record SameBuilder (old new : BuilderView) : Type 0 where
  pub ledger : new.ledger ≡ old.ledger
  pub cells : SameCells old.cube new.cube

-- a cube over the same sets counts these facts more
pub record GainsFacts (facts : List Fact) (old new : Lattice) : Type 0 where
  pub same : SameSets old new
  pub counts : (before : List Fact) → CountsFacts before old → CountsFacts (facts ++ before) new
