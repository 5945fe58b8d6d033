-- The cells of a cube as they are kept: a table for each kept grouping set (this project's choice).
use Rattle.std.specs.Prelude.{◌≡◌, ◌==◌, ◌+◌, ◌*◌, ◌<◌, ◌++◌, ◌≤◌, ℕ, ℤ, Bool, List, [], ◌∷◌, length, map, get_or}
use Rattle.std.specs.Prelude.{Option, All, if◌then◌else◌}
use Rattle.cube_core.specs.Layout.{Layout}
use Rattle.cube_cells.specs.Codes.{Dictionaries, all_code}
use Rattle.cube_cells.specs.Coded.{CodedCells, AreNewCells, IsCoded, coded_at}
use Rattle.cube_cells.specs.Cube.{cell_holds}
use Rattle.cube_cells.specs.Walk.{key_in, HasRoom, AddsIn, TakesIn, SameCoded, AreApart}
use Rattle.std.specs.HashMap.{hasher_of}
use Rattle.std.specs.List.Sorted.{IsPermutation}
use Rattle.cube_cells.specs.declared.cube.cell_key.CellKey.{CellKey}
use Rattle.cube_cells.specs.declared.cube.codes.Codes.{Codes}
use Rattle.cube_cells.specs.declared.cube.levels.Level.{Level}

-- the grouping sets of levels
abbrev pub sets_of : {N : Type 0} → List (Level N) → List ℕ
sets_of levels = map (λ level. level.set) levels

-- the cells of levels, one level before another
abbrev pub cells_of : {N : Type 0} → List (Level N) → CodedCells
cells_of [] = []
cells_of (level ∷ levels) = level.cells.entries ++ cells_of levels

-- the mask of codes: the sum of 2 to the power d over each place d, from 0, whose code isn't that of ALL
abbrev pub mask_of_codes : List ℕ → ℕ
mask_of_codes [] = 0
mask_of_codes (code ∷ codes) = (if code == all_code then 0 else 1) + 2 * mask_of_codes codes

-- the codes of each cell of a level are of its set
abbrev pub IsOfOneSet : {N : Type 0} → Level N → Type 0
IsOfOneSet level = All (λ cell. mask_of_codes cell.0.codes ≡ level.set) level.cells.entries

-- the levels of these sets, in their order
pub record AreLevelsOf {N : Type 0} (sets : List ℕ) (levels : List (Level N)) : Type 0 where
  pub sets_are : sets_of levels ≡ sets
  pub each : All IsOfOneSet levels

-- what is true of a cube as it is kept
pub record IsLeveled {N : Type 0} (schema : Layout) (sets : List ℕ) (facts : ℕ) (dictionaries : Dictionaries)
    (levels : List (Level N))
    : Type 0 where
  pub coded : IsCoded schema sets facts dictionaries (cells_of levels)
  pub tables : AreLevelsOf sets levels

-- the cells of the level that codes are of, or none where there is no such level
abbrev pub table_at : {N : Type 0} → List (Level N) → Codes → CodedCells
table_at [] codes = []
table_at (level ∷ levels) codes =
    if level.set == mask_of_codes codes.codes then level.cells.entries else table_at levels codes

-- a level of this set, with the cells of no fact
pub record IsNewLevel {N : Type 0} (measures set : ℕ) (level : Level N) : Type 0 where
  pub set_is : level.set ≡ set
  pub new : AreNewCells (set == 0) measures level.cells.entries

-- a level has the cells it had, in any order
pub record IsReordered {N : Type 0} (old new : Level N) : Type 0 where
  pub same_set : new.set ≡ old.set
  pub moved : IsPermutation old.cells.entries new.cells.entries

-- the codes of a level's cells are hashed under this key
abbrev pub IsUnderKey : {N : Type 0} → CellKey → Level N → Type 0
IsUnderKey key level = hasher_of level.cells ≡ key

-- the key of codes in the set of a level
abbrev pub key_of_level : {N : Type 0} → Codes → Level N → Codes
key_of_level codes level = key_in codes level.set

-- a fact can be added in a level
abbrev pub HasRoomInLevel : {N : Type 0} → Codes → List (Option ℤ) → Level N → Type 0
HasRoomInLevel codes values level =
    HasRoom values (key_of_level codes level) (coded_at level.cells.entries (key_of_level codes level))

-- whether a level holds the values of a fact
abbrev pub level_holds : {N : Type 0} → Codes → List (Option ℤ) → Level N → Bool
level_holds codes values level = cell_holds values (coded_at level.cells.entries (key_of_level codes level))

-- a fact is added in a level
pub record AddsInLevel {N : Type 0} (codes : Codes) (values : List (Option ℤ)) (old new : Level N) : Type 0 where
  pub same_set : new.set ≡ old.set
  pub adds : AddsIn (key_of_level codes old ∷ []) values old.cells.entries new.cells.entries
  pub apart : AreApart old.cells.entries → AreApart new.cells.entries

-- a fact is taken in a level
pub record TakesInLevel {N : Type 0} (codes : Codes) (values : List (Option ℤ)) (old new : Level N) : Type 0 where
  pub same_set : new.set ≡ old.set
  pub takes : TakesIn (key_of_level codes old ∷ []) values old.cells.entries new.cells.entries
  pub apart : AreApart old.cells.entries → AreApart new.cells.entries

-- the cells of a level count the same
pub record SameInLevel {N : Type 0} (codes : Codes) (old new : Level N) : Type 0 where
  pub same_set : new.set ≡ old.set
  pub same : SameCoded (key_of_level codes old ∷ []) old.cells.entries new.cells.entries
  pub apart : AreApart old.cells.entries → AreApart new.cells.entries

-- the first of these levels are changed, each in one way, and the others stay
pub record ChangesFirst {N : Type 0} (Changes : Level N → Level N → Type 0) (number : ℕ)
    (old new : List (Level N)) : Type 0 where
  pub same_length : length new ≡ length old
  pub changed : (i : ℕ) (unused : Level N) → i < number → Changes (get_or old i unused) (get_or new i unused)
  pub others : (i : ℕ) (unused : Level N) → number ≤ i → get_or new i unused ≡ get_or old i unused
