-- A walk over a whole cube in parts, each of which may be taken alone (this project's choice).
use Rattle.std.specs.Prelude.{◌≡◌, ◌+◌, ◌-◌, ◌<◌, ◌≤◌, ◌++◌, ◌∷◌, [], ℕ, Bool, true, false, List, length, get_or, map}
use Rattle.std.specs.Global.{Vec}
use Rattle.std.specs.List.{AllZip, flat_map}
use Rattle.cube_cells.specs.BottomUp.{AreCellsOfCube, AreRaised, AreRunsOf, CanWalk, IsWalkOf, TakesAll}
use Rattle.cube_cells.specs.BottomUp.{cells_of_items, is_kept_by}
use Rattle.cube_cells.specs.Coded.{CodedCells}
use Rattle.cube_cells.specs.Cube.{Lattice}
use Rattle.cube_cells.specs.Tally.{Tally}
use Rattle.cube_cells.specs.declared.cube.bottom_up.Item.{Item}
use Rattle.cube_cells.specs.declared.cube.codes.Codes.{Codes}

-- items that are walked over from a dimension on: whole, or the runs of one code of that dimension alone
pub record PartOfWalk : Type 0 where
  pub kept : List Bool
  pub dimensions : ℕ
  pub from : ℕ
  pub is_whole : Bool
  pub items : CodedCells

abbrev pub part_of : List Bool → ℕ → ℕ → Bool → CodedCells → PartOfWalk
part_of kept dimensions from is_whole items =
    record { kept = kept; dimensions = dimensions; from = from; is_whole = is_whole; items = items }

-- a part can be walked over
pub record CanWalkPart (part : PartOfWalk) : Type 0 where
  pub within : part.from ≤ part.dimensions
  pub below : part.is_whole ≡ false → part.from < part.dimensions
  pub can : CanWalk part.dimensions part.from part.items

-- these are the cells of a part
pub record AreCellsOfPart (part : PartOfWalk) (cells : CodedCells) : Type 0 where
  pub whole : part.is_whole ≡ true
      → IsWalkOf (is_kept_by part.kept) (part.dimensions - part.from) part.from part.items cells
  pub runs : part.is_whole ≡ false
      → AreRunsOf (is_kept_by part.kept) (part.dimensions - (part.from + 1)) part.from part.items cells

-- they are taken
pub record TakesPart {S : Type 0} (takes : S → Codes → Tally → S → Type 0) (part : PartOfWalk) (old new : S)
    : Type 0 where
  pub cells : CodedCells
  pub are : AreCellsOfPart part cells
  pub taken : TakesAll takes old cells new

-- the cells of lists, one list behind the other
abbrev pub put_together : List CodedCells → CodedCells
put_together lists = flat_map (λ cells. cells) lists

-- the cells of these parts, one part behind the other, are those of the cube
pub record ArePartsOfCube (finest : Lattice) (parts : List PartOfWalk) : Type 0 where
  pub give : (lists : List CodedCells) → AllZip AreCellsOfPart parts lists → AreCellsOfCube finest (put_together lists)

-- they are those of a walk over items
pub record ArePartsOf (kept : List Bool) (dimensions : ℕ) (items : CodedCells) (parts : List PartOfWalk) : Type 0 where
  pub give : (lists : List CodedCells) → AllZip AreCellsOfPart parts lists
      → IsWalkOf (is_kept_by kept) dimensions 0 items (put_together lists)

-- parts were put behind others whose cells are those of the runs of one code of a dimension
pub record PutsRuns (kept : List Bool) (dimensions from : ℕ) (items : CodedCells) (old new : List PartOfWalk)
    : Type 0 where
  pub more : List PartOfWalk
  pub put : new ≡ old ++ more
  pub give : (lists : List CodedCells) → AllZip AreCellsOfPart more lists
      → AreRunsOf (is_kept_by kept) (dimensions - (from + 1)) from items (put_together lists)

-- parts were put behind others whose cells are those of a walk from a dimension on
pub record PutsLast (kept : List Bool) (dimensions from : ℕ) (items : CodedCells) (old new : List PartOfWalk)
    : Type 0 where
  pub more : List PartOfWalk
  pub put : new ≡ old ++ more
  pub give : (lists : List CodedCells) → AllZip AreCellsOfPart more lists
      → IsWalkOf (is_kept_by kept) (dimensions - from) from items (put_together lists)

-- what a walk over items gives is the cube
pub record WalkGivesCube (finest : Lattice) (kept : List Bool) (items : CodedCells) : Type 0 where
  pub can : CanWalk (length finest.schema.dimensions) 0 items
  pub gives : (cells : CodedCells) → IsWalkOf (is_kept_by kept) (length finest.schema.dimensions) 0 items cells
      → AreCellsOfCube finest cells

-- the cells of lists of items
abbrev pub cells_of_lists : {N : Type 0} → List (Vec (Item N)) → List CodedCells
cells_of_lists lists = map (λ list. cells_of_items list.items) lists

-- items that can be walked over, and lists of which each is the one before it with ALL in the next dimension
pub record AreRaisedOver (dimensions : ℕ) (items : CodedCells) (lists : List CodedCells) : Type 0 where
  pub can : CanWalk dimensions 0 items
  pub few : length lists ≤ dimensions
  pub each : (k : ℕ) → k < length lists → AreRaised k (get_or (items ∷ lists) k []) (get_or lists k [])

-- the same where a walk over the items gives the cube
pub record AreRaisedCells (finest : Lattice) (kept : List Bool) (items : CodedCells) (lists : List CodedCells)
    : Type 0 where
  pub walk : WalkGivesCube finest kept items
  pub raised : AreRaisedOver (length finest.schema.dimensions) items lists
