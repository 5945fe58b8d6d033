-- What each step of the cube needs of the walk over its levels, and what it then promises.
use Rattle.std.proofs.Common.{◌≡◌, ℕ, ◌+◌, ◌-◌, ◌^◌, ◌<◌, List, ◌∷◌, [], true, refl, sym, ap, ◌∙◌, subst, length}
use Rattle.std.proofs.Common.{get_or}
use Rattle.std.specs.Prelude.{All, IsTrue}
use Rattle.std.specs.List.{AllZip, list_all}
use Rattle.std.specs.List.Sorted.{IsStrictlySortedBy}
use Rattle.std.proofs.lemmas.List.{append-nil}
use Rattle.std.proofs.lemmas.List.Elements.{All-nil}
use Rattle.cube_core.specs.Layout.{Layout}
use Rattle.cube_core.specs.Takes.{fits}
use Rattle.cube_core.specs.declared.fact.Fact.{Fact}
use Rattle.cube_core.proofs.CellKeyLaws.{fits-length}
use Rattle.cube_cells.specs.Codes.{Dictionaries, IsDictionary}
use Rattle.cube_cells.specs.Coded.{IsCodedCell, coded_at, lattice_of}
use Rattle.cube_cells.specs.Cube.{HoldsFact, AddsFact, TakesFact, SameCells, cell_holds}
use Rattle.cube_cells.specs.Levels.{AddsInLevel, HasRoomInLevel, IsLeveled, IsOfOneSet, SameInLevel, TakesInLevel}
use Rattle.cube_cells.specs.Levels.{cells_of}
use Rattle.cube_cells.specs.Levels.{level_holds, sets_of, table_at}
use Rattle.cube_cells.specs.Walk.{HasRoom, key_in}
use Rattle.cube_cells.specs.declared.cube.codes.Codes.{Codes}
use Rattle.cube_cells.specs.declared.cube.levels.Level.{Level}
use Rattle.cube_cells.proofs.Codes.GrowthLaws.{AreGrown}
use Rattle.cube_cells.proofs.Codes.KeyLaws.{HasFactCodes}
use Rattle.cube_cells.proofs.Cells.SchemaLaws.{IsCubeSchema}
use Rattle.cube_cells.proofs.Cells.StepLaws.{HasNewCodes, codes_in-HasRoom, codes_in-cell_holds, IsCoded-AddsFact}
use Rattle.cube_cells.proofs.Cells.StepLaws.{IsCoded-SameCells, IsCoded-SameCells_from_AreGrown, IsCoded-TakesFact}
use Rattle.cube_cells.proofs.Cells.TableLaws.{AddsIn-AddsInLevel, All-key_of_level, HasKeysIn, SameCoded-SameInLevel}
use Rattle.cube_cells.proofs.Cells.TableLaws.{TakesIn-TakesInLevel, coded_at-table_at, list_all-key_of_level}
use Rattle.cube_cells.proofs.Cells.TableLaws.{mask_of_codes-kept_codes}
use Rattle.cube_cells.proofs.Cells.JoinLaws.{AreApart-nil}

-- the codes of a fact that fits have keys of the kept sets
HasKeysIn-fits : {N : Type 0} → {schema : Layout} {sets : List ℕ} {facts : ℕ} {old new : Dictionaries}
    {levels : List (Level N)}
    {fact : Fact} {codes : Codes} → IsLeveled schema sets facts old levels → fits schema fact ≡ true
    → HasFactCodes new fact codes → HasKeysIn codes sets
HasKeysIn-fits {schema = schema} {sets = sets} {new = new} {fact = fact} {codes = codes} is fit has =
    let below : All (λ set. set < 2 ^ length fact.dims) sets =
    subst (λ (n : ℕ). All (λ set. set < 2 ^ n) sets) (sym (fits-length schema fact fit)) is.coded.lattice.sets in
    λ k d inside. mask_of_codes-kept_codes new fact.dims codes.codes _ has.are (below k d inside)

-- ---- a fact is taken
pub All-level_holds : {N : Type 0} → {schema : Layout} {sets : List ℕ} {facts : ℕ} {dictionaries : Dictionaries}
    {levels : List (Level N)}
    {fact : Fact} {codes : Codes} → IsLeveled schema sets facts dictionaries levels
    → HoldsFact (lattice_of schema sets facts dictionaries (cells_of levels)) fact
    → HasFactCodes dictionaries fact codes → All (λ level. IsTrue (level_holds codes fact.measures level)) levels
All-level_holds {levels = levels} {fact = fact} {codes = codes} is holds has =
    let are = is.tables.sets_are in
    All-key_of_level (λ key cell. cell_holds fact.measures cell ≡ true) codes levels is.tables.each
    (rw are is.coded.lattice.ascending) (rw are (HasKeysIn-fits is holds.fits has))
    (rw are (codes_in-cell_holds is.coded holds has).1)

pub IsLeveled-TakesFact : {N : Type 0} → {schema : Layout} {sets : List ℕ} {facts : ℕ} {dictionaries : Dictionaries}
    {levels : List (Level N)} {fact : Fact} {codes : Codes} (left : List (Level N))
    → IsLeveled schema sets facts dictionaries levels
    → HoldsFact (lattice_of schema sets facts dictionaries (cells_of levels)) fact
    → HasFactCodes dictionaries fact codes → AllZip (TakesInLevel codes fact.measures) levels left
    → IsLeveled schema sets (facts - 1) dictionaries left
    × TakesFact fact (lattice_of schema sets facts dictionaries (cells_of levels))
    (lattice_of schema sets (facts - 1) dictionaries (cells_of left))
IsLeveled-TakesFact {sets = sets} {levels = levels} {fact = fact} {codes = codes} left is holds has takes =
    let all = TakesIn-TakesInLevel codes fact.measures sets levels left is.coded.lattice.ascending
    (HasKeysIn-fits is holds.fits has) is.tables is.coded.distinct takes in
    let coded = IsCoded-TakesFact (cells_of left) is.coded holds has all.1 all.2 in
    (record { coded = coded.0; tables = all.0 }, coded.1)

-- whether each level holds its values
pub list_all-level_holds : {N : Type 0} → {schema : Layout} {sets : List ℕ} {facts : ℕ} {dictionaries : Dictionaries}
    {levels : List (Level N)} {fact : Fact} {codes : Codes} → IsLeveled schema sets facts dictionaries levels
    → fits schema fact ≡ true → HasFactCodes dictionaries fact codes → list_all (level_holds codes fact.measures) levels
    ≡ list_all (λ set. cell_holds fact.measures (coded_at (cells_of levels) (key_in codes set))) sets
list_all-level_holds {sets = sets} {levels = levels} {fact = fact} {codes = codes} is fit has =
    let are = is.tables.sets_are in
    let same = list_all-key_of_level (cell_holds fact.measures) codes levels is.tables.each
    (rw are is.coded.lattice.ascending) (rw are (HasKeysIn-fits is fit has)) in
    same ∙ ap
    (λ (xs : List ℕ). list_all (λ set. cell_holds fact.measures (coded_at (cells_of levels) (key_in codes set))) xs) are

-- ---- a fact is added
pub All-HasRoomInLevel : {N : Type 0} → {schema : Layout} {sets : List ℕ} {facts : ℕ} {old new : Dictionaries}
    {levels : List (Level N)}
    {fact : Fact} {codes : Codes} → IsLeveled schema sets facts old levels → fits schema fact ≡ true
    → facts + 1 < 2 ^ 64 → HasNewCodes old new fact codes → All (HasRoomInLevel codes fact.measures) levels
All-HasRoomInLevel {levels = levels} {fact = fact} {codes = codes} is fit room has =
    let are = is.tables.sets_are in
    All-key_of_level (λ key cell. HasRoom fact.measures key cell) codes levels is.tables.each
    (rw are is.coded.lattice.ascending) (rw are (HasKeysIn-fits is fit has.has))
    (rw are (codes_in-HasRoom is.coded fit room has).1)

pub IsLeveled-AddsFact : {N : Type 0} → {schema : Layout} {sets : List ℕ} {facts : ℕ} {old new : Dictionaries}
    {levels : List (Level N)}
    {fact : Fact} {codes : Codes} (more : List (Level N)) → IsLeveled schema sets facts old levels
    → fits schema fact ≡ true
    → HasNewCodes old new fact codes → AllZip (AddsInLevel codes fact.measures) levels more
    → IsLeveled schema sets (facts + 1) new more × AddsFact fact (lattice_of schema sets facts old (cells_of levels))
    (lattice_of schema sets (facts + 1) new (cells_of more))
IsLeveled-AddsFact {sets = sets} {levels = levels} {fact = fact} {codes = codes} more is fit has adds =
    let all = AddsIn-AddsInLevel codes fact.measures sets levels more is.coded.lattice.ascending
    (HasKeysIn-fits is fit has.has) is.tables is.coded.distinct adds in
    let coded = IsCoded-AddsFact (cells_of more) is.coded fit has all.1 all.2 in
    (record { coded = coded.0; tables = all.0 }, coded.1)

-- ---- a growth is refused
pub IsLeveled-SameCells : {N : Type 0} → {schema : Layout} {sets : List ℕ} {facts : ℕ} {old new : Dictionaries}
    {levels : List (Level N)}
    {fact : Fact} {codes : Codes} (others : List (Level N)) → IsLeveled schema sets facts old levels
    → fits schema fact ≡ true → HasNewCodes old new fact codes → AllZip (SameInLevel codes) levels others
    → IsLeveled schema sets facts new others × SameCells (lattice_of schema sets facts old (cells_of levels))
    (lattice_of schema sets facts new (cells_of others))
IsLeveled-SameCells {sets = sets} {new = new} {levels = levels} {codes = codes} others is fit has same =
    let all = SameCoded-SameInLevel codes sets levels others is.coded.lattice.ascending
    (HasKeysIn-fits is fit has.has) is.tables is.coded.distinct same in
    let coded = IsCoded-SameCells new (cells_of others) is.coded has.grown has.all all.1 all.2 in
    (record { coded = coded.0; tables = all.0 }, coded.1)

pub IsLeveled-SameCells_from_AreGrown : {N : Type 0} → {schema : Layout} {sets : List ℕ} {facts : ℕ}
    {old : Dictionaries}
    {levels : List (Level N)} (new : Dictionaries) → IsLeveled schema sets facts old levels
    → AreGrown old new → All IsDictionary new
    → IsLeveled schema sets facts new levels × SameCells (lattice_of schema sets facts old (cells_of levels))
    (lattice_of schema sets facts new (cells_of levels))
IsLeveled-SameCells_from_AreGrown new is grown all =
    let coded = IsCoded-SameCells_from_AreGrown new is.coded grown all in
    (record { coded = coded.0; tables = is.tables }, coded.1)

-- ---- a look-up
pub coded_at-IsLeveled : {N : Type 0} → {schema : Layout} {sets : List ℕ} {facts : ℕ} {dictionaries : Dictionaries}
    {levels : List (Level N)} (codes : Codes) → IsLeveled schema sets facts dictionaries levels
    → coded_at (cells_of levels) codes ≡ coded_at (table_at levels codes) codes
coded_at-IsLeveled {levels = levels} codes is =
    coded_at-table_at levels codes is.tables.each (rw is.tables.sets_are is.coded.lattice.ascending)

-- ---- one level alone
-- the cells of a cube over one set are those of its level
one_level : {N : Type 0} (levels : List (Level N)) (set : ℕ) → sets_of levels ≡ set ∷ []
    → (level : Level N) × (levels ≡ level ∷ []) × (level.set ≡ set) × (cells_of levels ≡ level.cells.entries)
one_level [] set are = cc are
one_level (level ∷ []) set are = (level, refl, cc are, append-nil level.cells.entries)
one_level (level ∷ other ∷ levels) set are = cc are

pub sole_level : {N : Type 0} → {schema : Layout} {sets : List ℕ} {facts : ℕ} {dictionaries : Dictionaries}
    (levels : List (Level N))
    (first : Level N) (set : ℕ) → IsLeveled schema sets facts dictionaries levels → sets ≡ set ∷ []
    → first ≡ get_or levels 0 first → (first.set ≡ set) × (cells_of levels ≡ first.cells.entries)
sole_level {N} levels first set is one there =
    let alone = one_level levels set (is.tables.sets_are ∙ one) in
    let same : first ≡ alone.0 = there ∙ ap (λ (ls : List (Level N)). get_or ls 0 first) alone.1 in
    (ap (λ (l : Level N). l.set) same ∙ alone.2, alone.3 ∙ ap (λ (l : Level N). l.cells.entries) (sym same))

-- ---- no level
-- a cube over no grouping set, of no fact
pub IsLeveled-none : {N : Type 0} (schema : Layout) (sets : List ℕ) (dictionaries : Dictionaries)
    (levels : List (Level N)) → IsCubeSchema schema → length dictionaries ≡ length schema.dimensions
    → All IsDictionary dictionaries → sets ≡ [] → levels ≡ [] → IsLeveled schema sets 0 dictionaries levels
unfolding IsStrictlySortedBy
IsLeveled-none {N} schema sets dictionaries levels is long texts none empty = rw (none, empty) (record {
  coded = record {
    lattice = record {
      schema = is.is;
      no_texts = is.no_texts;
      sets = All-nil (λ set. set < 2 ^ length schema.dimensions);
      ascending = tt;
      dictionaries = long;
    };
    texts = texts;
    distinct = AreApart-nil;
    each = All-nil (IsCodedCell dictionaries (length schema.measures));
    total = λ kept. cc kept;
    counts = λ set among. cc among;
  };
  tables = record { sets_are = refl; each = All-nil (λ (level : Level N). IsOfOneSet level) };
})
