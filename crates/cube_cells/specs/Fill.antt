-- Filling a cube at once: the cells of each grouping set are made from those of a finer one (Gray et al. 1997;
-- which finer one is this project's choice).
use Rattle.std.specs.Prelude.{◌≡◌, ◌-◌, ◌<◌, ◌==◌, ◌^◌, ◌++◌, ℕ, Bool, true, false, bit_and, List, [], ◌∷◌}
use Rattle.std.specs.Prelude.{length, get_or, reverse, Result, Option, Some, IfOk, IfSome, All, Contains, if◌then◌else◌}
use Rattle.std.specs.declared.alloc.AllocError.{AllocError}
use Rattle.cube_core.specs.Takes.{fits}
use Rattle.cube_core.specs.declared.fact.Fact.{Fact}
use Rattle.cube_cells.specs.Coded.{CodedCells, AreNewCells, same_codes, coded_at}
use Rattle.cube_cells.specs.Cube.{Lattice, IsCubeOf, tally_or_empty}
use Rattle.cube_cells.specs.Tally.{Tally, PlusTally}
use Rattle.cube_cells.specs.Walk.{AreApart, CountMore, key_in}
use Rattle.cube_cells.specs.declared.cube.codes.Codes.{Codes}
use Rattle.cube_cells.specs.declared.cube.levels.Level.{Level}

-- the grouping set of all of so many dimensions
abbrev pub finest_set : ℕ → ℕ
finest_set dimensions = 2 ^ dimensions - 1

-- the cube is that of these facts, which fit its schema, and counts them
pub record IsCubeOfAll (facts : List Fact) (l : Lattice) : Type 0 where
  pub fit : All (λ fact. fits l.schema fact ≡ true) facts
  pub cells : IsCubeOf l facts
  pub facts_are : l.facts ≡ length facts

-- the key is a cell that has the facts of another tally besides, and was no cell or one without them
pub record MergesAt (old new : Option Tally) (more : Tally) : Type 0 where
  pub tally : Tally
  pub is_cell : new ≡ Some tally
  pub plus : PlusTally (tally_or_empty (length more.bags) old) tally more

-- at these codes the facts of a tally are merged, and every other cell stays as it was
pub record MergesIn (codes : Codes) (old new : CodedCells) (more : Tally) : Type 0 where
  pub merged : MergesAt (coded_at old codes) (coded_at new codes) more
  pub others : (other : Codes) → same_codes codes other ≡ false → coded_at new other ≡ coded_at old other
  pub counts_more : CountMore more.facts (codes ∷ []) old new

-- cells are merged into others, each into the one of its codes in a grouping set
abbrev pub FillsSet : ℕ → CodedCells → CodedCells → CodedCells → Type 0
FillsSet set [] old new = new ≡ old
FillsSet set (cell ∷ cells) old new =
    (mid : CodedCells) × MergesIn (key_in cell.0 set) old mid cell.1 × (AreApart old → AreApart mid)
    × FillsSet set cells mid new

-- cells have bags for the same measures as others, which are looked up
pub record HaveOneWidth (cells others : CodedCells) : Type 0 where
  pub measures : ℕ
  pub each : All (λ cell. length cell.1.bags ≡ measures) cells
  pub found : (codes : Codes) → IfSome (coded_at others codes) (λ t. length t.bags ≡ measures)

-- one grouping set is finer than another: it has all of its dimensions and more
abbrev pub IsFiner : ℕ → ℕ → Type 0
IsFiner finer set = (set < finer) × (bit_and finer set ≡ set)

-- the cells of a grouping set are made from those of a finer one, which are merged into the cells of no fact
pub record AreMadeFrom (finer : CodedCells) (set measures : ℕ) (cells : CodedCells) : Type 0 where
  pub start : CodedCells
  pub new : AreNewCells (set == 0) measures start
  pub fills : FillsSet set finer start cells

-- levels are made one after another, each from a finer one: the finest, or one that is there
abbrev pub MakesLevels : {N : Type 0} → ℕ → Level N → List ℕ → List (Level N) → List (Level N) → Type 0
MakesLevels {N} measures finest [] old new = new ≡ old
MakesLevels {N} measures finest (set ∷ sets) old new =
    (finer : Level N) × (level : Level N) × Contains (finest ∷ old) finer × IsFiner finer.set set × (level.set ≡ set)
    × AreMadeFrom finer.cells.entries set measures level.cells.entries
    × MakesLevels measures finest sets (old ++ level ∷ []) new

-- the level of a set is made from the finest or one that is there
pub record IsMadeLevel {N : Type 0} (measures : ℕ) (finest : Level N) (levels : List (Level N)) (set : ℕ)
    (level : Level N) : Type 0 where
  pub finer : Level N
  pub there : Contains (finest ∷ levels) finer
  pub is_finer : IsFiner finer.set set
  pub set_is : level.set ≡ set
  pub made : AreMadeFrom finer.cells.entries set measures level.cells.entries
  pub width : All (λ cell. length cell.1.bags ≡ measures) level.cells.entries

-- for each of so many things a result: what is to be made of it, unless memory ran out
pub record AreMade {X : Type 0} (is : ℕ → X → Type 0) (number : ℕ) (made : List (Result X AllocError)) : Type 0 where
  pub long : length made ≡ number
  pub each : (i : ℕ) (unused : Result X AllocError) → i < number → IfOk (get_or made i unused) (is i)

-- these are the levels of the sets, in their order: those that are made from the last set to the first, and the finest one
-- behind them where it is kept
pub record AreFilled {N : Type 0} (finest : Level N) (sets : List ℕ) (measures : ℕ)
    (levels : List (Level N)) : Type 0 where
  pub keeps_finest : Bool
  pub coarser : List ℕ
  pub made : List (Level N)
  pub coarser_are : sets ≡ coarser ++ (if keeps_finest then finest.set ∷ [] else [])
  pub makes : MakesLevels measures finest (reverse coarser) [] (reverse made)
  pub levels_are : levels ≡ made ++ (if keeps_finest then finest ∷ [] else [])
