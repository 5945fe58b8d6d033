-- Rows of the cells of a walk whose codes are wanted, and the grouping sets that can have one (this project's choice).
use Rattle.std.specs.Prelude.{◌≡◌, ◌==◌, ◌&&◌, ◌||◌, ◌%◌, ◌/◌, ◌++◌, ℕ, Bool, true, not, if◌then◌else◌, List, [], ◌∷◌, filter}
use Rattle.std.specs.Prelude.{length}
use Rattle.std.specs.List.{AllZip}
use Rattle.cube_core.specs.declared.key.Row.{Row}
use Rattle.cube_cells.specs.Codes.{all_code}
use Rattle.cube_cells.specs.Coded.{CodedCells, decoded}
use Rattle.cube_cells.specs.Cube.{Lattice}
use Rattle.cube_cells.specs.Rows.{IsRowOf, are_wanted_codes}
use Rattle.cube_cells.specs.Tally.{Tally}
use Rattle.cube_cells.specs.declared.cube.codes.Codes.{Codes}
use Rattle.cube_cells.specs.declared.cube.finest_rows.WantedRows.{WantedRows}
use Rattle.cube_cells.specs.declared.cube.rows.Want.{Want}
use Rattle.cube_cells.specs.declared.cube.rows.Want.TheVariants as want

-- whether a code of a dimension that is grouped, or isn't, can be wanted
abbrev pub can_be_grouped : Want → Bool → Bool
can_be_grouped want.Any is_grouped = true
can_be_grouped (want.Code wanted) is_grouped = if wanted == all_code then not is_grouped else is_grouped
can_be_grouped (want.Not unwanted) is_grouped = not (unwanted == all_code) || is_grouped

-- whether codes of a grouping set can be wanted
abbrev pub can_be_of : List Want → ℕ → Bool
can_be_of [] set = true
can_be_of (w ∷ wants) set = can_be_grouped w (set % 2 == 1) && can_be_of wants (set / 2)

-- the rows of those of some cells whose codes are wanted are put last
pub record AddsWanted (finest : Lattice) (wants : List Want) (cells : CodedCells) (old new : List Row) : Type 0 where
  pub rows : List Row
  pub are : AllZip (IsRowOf finest.schema.aggregates)
      (decoded finest.dictionaries (filter (λ one. are_wanted_codes wants one.0.codes) cells)) rows
  pub added : new ≡ old ++ rows

-- a cell more is taken: its row goes last where its codes are wanted, and it has a bag for each measure of the schema
pub record TakesWanted {N : Type 0} (old : WantedRows N) (codes : Codes) (cell : Tally) (new : WantedRows N)
    : Type 0 where
  pub same : new.cells ≡ old.cells
  pub same_wants : new.wants ≡ old.wants
  pub more : length cell.bags ≡ length old.cells.now.schema.measures
      → AddsWanted old.cells.now old.wants.now ((codes, cell) ∷ []) old.rows.items new.rows.items
