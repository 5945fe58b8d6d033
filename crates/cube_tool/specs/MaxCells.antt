-- How many cells a cube may have, as a word names it, and whether it has more (this project's choice).
use Rattle.std.specs.Prelude.{◌≡◌, ◌<◌, ◌≤◌, ◌⊎◌, ◌&&◌, ◌^◌, ◌-◌, ⊤, nat_le, ℕ, List, map, Option, Some, None}
use Rattle.std.specs.Prelude.{option_and_then, if◌then◌else◌}
use Rattle.cube_core.specs.Layout.{Layout, cube_schema}
use Rattle.cube_core.specs.TextPlaces.{counted}
use Rattle.cube_core.specs.declared.fact.Fact.{Fact}
use Rattle.cube_cells.specs.Count.{HasCells}
use Rattle.cube_live.specs.Request.{count_of}
use Rattle.cube_tool.specs.declared.command.failure.Failure.{Failure}
use Rattle.cube_tool.specs.declared.command.failure.Failure.TheVariants.{Run, TooManyCells}
use Rattle.cube_tool.specs.declared.fault.RunFault.TheVariants as run_fault

-- a number of cells, where it is from 1 to 2 to the power 63 less 1
abbrev pub lawful_cells : ℕ → Option ℕ
lawful_cells number = if nat_le 1 number && nat_le number (2 ^ 63 - 1) then Some number else None

-- the number of cells that a word names: a number in digits alone with no leading zero
abbrev pub cells_named : List ℕ → Option ℕ
cells_named word = option_and_then lawful_cells (count_of word)

-- the cube of these facts of a schema's feeds, over its grouping sets, has so many cells
abbrev pub HasCellsOf : Layout → List Fact → ℕ → Type 0
HasCellsOf s facts number = HasCells (cube_schema s) (map (counted s) facts) number

-- it has no more cells than it may have, where there is a bound
abbrev pub HasCellsWithin : Option ℕ → Layout → List Fact → Type 0
HasCellsWithin None s facts = ⊤
HasCellsWithin (Some most) s facts = (number : ℕ) × HasCellsOf s facts number × (number ≤ most)

-- it has more cells than it may have
abbrev pub HasCellsBeyond : Option ℕ → Layout → List Fact → Type 0
HasCellsBeyond None s facts = ⊥
HasCellsBeyond (Some most) s facts = (number : ℕ) × HasCellsOf s facts number × (most < number)

-- a failure tells that there are more cells than there may be, or that memory ran out
abbrev pub RefusesCells : Option ℕ → Layout → List Fact → Failure → Type 0
RefusesCells most s facts failure =
    ((failure ≡ TooManyCells) × HasCellsBeyond most s facts) ⊎ (failure ≡ Run run_fault.Full)
