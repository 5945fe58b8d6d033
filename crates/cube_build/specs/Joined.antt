-- What is asked of the cubes of all parts, and answered as the whole cube would answer it (this project's choice).
use Rattle.std.specs.Prelude.{◌≡◌, ◌<◌, ℕ, Bool, List, length, get_or, map, Option}
use Rattle.cube_core.specs.Cube.{AreRows, AreRowsOver}
use Rattle.cube_core.specs.Layout.{Layout, cube_schema, number_of_dimensions}
use Rattle.cube_core.specs.Query.{AreRowsWhere}
use Rattle.cube_core.specs.TextPlaces.{counted}
use Rattle.cube_core.specs.declared.fact.Fact.{Fact}
use Rattle.cube_core.specs.declared.key.Key.{Key}
use Rattle.cube_core.specs.declared.key.Row.{Row}
use Rattle.cube_cells.specs.Count.{HasCells}
use Rattle.cube_cells.specs.Cube.{Lattice, IsCubeOf}
use Rattle.cube_cells.specs.Rows.{AreRowsInOrder, CellsInOrder, IsRowOver}
use Rattle.cube_build.specs.Parted.{ArePartsOf}

-- these are the rows of a cube whose keys pass a test, for any facts that it is the cube of
abbrev pub AnswersIn : (Key → Bool) → Lattice → List Row → Type 0
AnswersIn test cube rows = (facts : List Fact) → IsCubeOf cube facts
    → AreRowsWhere test cube.sets (length cube.schema.dimensions) cube.schema.aggregates facts rows

-- the rows of these cells, in their order, are those of a cube, for any facts that it is the cube of
abbrev pub OrdersCells : Lattice → CellsInOrder → Type 0
OrdersCells cube ordered = (rows : List Row) → AreRowsInOrder ordered rows → (facts : List Fact) → IsCubeOf cube facts
    → AreRowsOver cube.sets (length cube.schema.dimensions) cube.schema.aggregates facts rows

-- these are the cells of the first of these holders' cubes, in key order
pub record OrdersFirst {Holder : Type 0} (cube_of : Holder → Lattice) (parts : List Holder) (ordered : CellsInOrder)
    : Type 0 where
  pub first : Holder
  pub at : first ≡ get_or parts 0 first
  pub cells : OrdersCells (cube_of first) ordered
  pub aggregates : ordered.aggregates ≡ (cube_of first).schema.aggregates

-- these are the parts of one cube: that of some facts under some schema
pub record ArePartsOfOne {Holder : Type 0} (cube_of : Holder → Lattice) (parts : List Holder) : Type 0 where
  pub schema : Layout
  pub facts : List Fact
  pub are : ArePartsOf cube_of schema facts parts

-- so much is true of the schema of each part's cube
abbrev pub EachSchema : {Holder : Type 0} → (Holder → Lattice) → (Layout → Type 0) → List Holder → Type 0
EachSchema {Holder} cube_of Is parts =
    (part : ℕ) (d : Holder) → part < length parts → Is (cube_of (get_or parts part d)).schema

-- these are the rows of the whole cube that these are the parts of
abbrev pub AreRowsOfWhole : {Holder : Type 0} → (Holder → Lattice) → List Holder → List Row → Type 0
AreRowsOfWhole cube_of parts rows =
    (s : Layout) (facts : List Fact) → ArePartsOf cube_of s facts parts → AreRows s facts rows

-- these are those of them whose keys pass a test
abbrev pub AnswersInWhole : {Holder : Type 0} → (Holder → Lattice) → (Key → Bool) → List Holder → List Row → Type 0
AnswersInWhole cube_of test parts rows = (s : Layout) (facts : List Fact) → ArePartsOf cube_of s facts parts
    → AreRowsWhere test s.grouping_sets (number_of_dimensions s) s.aggregates (map (counted s) facts) rows

-- this is the row of a key of the whole cube that these are the parts of, or none where the key is no cell
abbrev pub IsRowOfWhole : {Holder : Type 0} → (Holder → Lattice) → Key → List Holder → Option Row → Type 0
IsRowOfWhole cube_of key parts row = (s : Layout) (facts : List Fact) → ArePartsOf cube_of s facts parts
    → IsRowOver s.grouping_sets (number_of_dimensions s) s.aggregates (map (counted s) facts) key row

-- the whole cube that these are the parts of has so many cells
abbrev pub HasCellsOfWhole : {Holder : Type 0} → (Holder → Lattice) → List Holder → ℕ → Type 0
HasCellsOfWhole cube_of parts number = (s : Layout) (facts : List Fact) → ArePartsOf cube_of s facts parts
    → HasCells (cube_schema s) (map (counted s) facts) number
