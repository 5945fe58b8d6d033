-- What each step of the cube needs of the walk, and what it then promises.
use Rattle.std.proofs.Common.{arith, ◌≡◌, ℕ, ◌+◌, ◌-◌, ◌^◌, ◌<◌, List, [], true, refl, sym, subst}
use Rattle.std.specs.Prelude.{All}
use Rattle.std.specs.List.{IsDistinct}
use Rattle.cube_core.specs.Layout.{Layout}
use Rattle.cube_core.specs.Takes.{fits}
use Rattle.cube_core.specs.declared.fact.Fact.{Fact}
use Rattle.cube_core.proofs.CellKeyLaws.{fits-length}
use Rattle.cube_core.proofs.TextRowLaws.{fits-measures}
use Rattle.cube_cells.specs.Codes.{Dictionaries, IsDictionary, are_codes}
use Rattle.cube_cells.specs.Coded.{CodedCells, IsCoded, same_codes, coded_at, lattice_of}
use Rattle.cube_cells.specs.Cube.{HoldsFact, AddsFact, TakesFact, SameCells, cell_holds}
use Rattle.cube_cells.specs.Walk.{codes_in, is_in, HasRoom, AddsIn, TakesIn, SameCoded, AreApart}
use Rattle.cube_cells.specs.declared.cube.codes.Codes.{Codes}
use Rattle.cube_cells.proofs.Cells.CodedLaws.{AreValidIn, IsCodedFact, IsCodedFact-IsCoded, AreValidIn-HoldsFact}
use Rattle.cube_cells.proofs.Cells.CodedLaws.{cell_holds-is_in, AddsFact-AddsIn, TakesFact-TakesIn, SameCells-SameCoded}
use Rattle.cube_cells.proofs.Codes.GrowthLaws.{AreGrown, AreGrown-length, codes_in-IsDistinct}
use Rattle.cube_cells.proofs.Cells.KeptLaws.{HasRoom-IsCoded, IsCoded-AddsIn, IsCoded-TakesIn, IsCoded-SameCoded}
use Rattle.cube_cells.proofs.Codes.KeyLaws.{HasFactCodes, are_codes-kept_codes}
use Rattle.cube_cells.proofs.Cells.WalkLaws.{SameCoded-refl}

-- the keys of a fact that fits differ
codes_in-IsDistinct_from_fits : {schema : Layout} {sets : List ℕ} {facts : ℕ} {old new : Dictionaries}
    {cells : CodedCells} {fact : Fact} {codes : Codes} → IsCoded schema sets facts old cells → fits schema fact ≡ true
    → HasFactCodes new fact codes → IsDistinct same_codes (codes_in sets codes)
codes_in-IsDistinct_from_fits {schema = schema} {sets = sets} {new = new} {fact = fact} {codes = codes} is fit has =
    codes_in-IsDistinct new fact codes sets has is.lattice.ascending
    (subst (λ (n : ℕ). All (λ set. set < 2 ^ n) sets) (sym (fits-length schema fact fit)) is.lattice.sets)

-- ---- a fact is taken
pub codes_in-cell_holds : {schema : Layout} {sets : List ℕ} {facts : ℕ} {dictionaries : Dictionaries}
    {cells : CodedCells} {fact : Fact} {codes : Codes} → IsCoded schema sets facts dictionaries cells
    → HoldsFact (lattice_of schema sets facts dictionaries cells) fact → HasFactCodes dictionaries fact codes
    → IsDistinct same_codes (codes_in sets codes)
    × ((key : Codes) → is_in (codes_in sets codes) key ≡ true → cell_holds fact.measures (coded_at cells key) ≡ true)
codes_in-cell_holds {schema = schema} {sets = sets} {facts = facts} {dictionaries = dictionaries} {cells = cells}
    {fact = fact} {codes = codes} is holds has =
    let of =
    IsCodedFact-IsCoded schema sets facts dictionaries dictionaries cells fact codes is holds.fits refl is.texts
    has in (
      codes_in-IsDistinct_from_fits is holds.fits has,
      cell_holds-is_in schema sets facts dictionaries cells fact codes is of holds,
    )

pub IsCoded-TakesFact : {schema : Layout} {sets : List ℕ} {facts : ℕ} {dictionaries : Dictionaries} {cells : CodedCells}
    {fact : Fact} {codes : Codes} (left : CodedCells) → IsCoded schema sets facts dictionaries cells
    → HoldsFact (lattice_of schema sets facts dictionaries cells) fact → HasFactCodes dictionaries fact codes
    → AreApart left → TakesIn (codes_in sets codes) fact.measures cells left
    → IsCoded schema sets (facts - 1) dictionaries left × TakesFact fact
    (lattice_of schema sets facts dictionaries cells) (lattice_of schema sets (facts - 1) dictionaries left)
IsCoded-TakesFact {schema = schema} {sets = sets} {facts = facts} {dictionaries = dictionaries} {cells = cells}
    {fact = fact} {codes = codes} left is holds has apart takes =
    let fewer : facts ≡ (facts - 1) + 1 = omega (arith, holds.some) in
    let of =
    IsCodedFact-IsCoded schema sets facts dictionaries dictionaries cells fact codes is holds.fits refl is.texts has in
    let valid = AreValidIn-HoldsFact schema sets facts dictionaries cells fact codes is of holds in
    let coded =
    IsCoded-TakesIn schema sets facts (facts - 1) dictionaries cells left fact codes is fewer of valid apart takes in (
      coded,
      TakesFact-TakesIn schema sets facts
          (facts - 1) dictionaries cells left fact codes is fewer of valid takes coded.each,
    )

-- ---- a fact is added
-- dictionaries that have grown give a fact codes
pub record HasNewCodes (old new : Dictionaries) (fact : Fact) (codes : Codes) : Type 0 where
  pub grown : AreGrown old new
  pub all : All IsDictionary new
  pub has : HasFactCodes new fact codes
  pub valid : are_codes new codes.codes ≡ true

IsCodedFact-HasNewCodes : {schema : Layout} {sets : List ℕ} {facts : ℕ} {old new : Dictionaries} {cells : CodedCells}
    {fact : Fact} {codes : Codes} → IsCoded schema sets facts old cells → fits schema fact ≡ true
    → HasNewCodes old new fact codes → IsCodedFact sets new fact codes × AreValidIn sets new codes
IsCodedFact-HasNewCodes {schema = schema} {sets = sets} {facts = facts} {old = old} {new = new} {cells = cells}
    {fact = fact} {codes = codes} is fit has = (
      IsCodedFact-IsCoded schema sets facts old new cells fact codes is fit
          (AreGrown-length old new has.grown) has.all has.has,
      λ set among. are_codes-kept_codes new codes.codes set has.valid,
    )

pub codes_in-HasRoom : {schema : Layout} {sets : List ℕ} {facts : ℕ} {old new : Dictionaries}
    {cells : CodedCells} {fact : Fact} {codes : Codes} → IsCoded schema sets facts old cells → fits schema fact ≡ true
    → facts + 1 < 2 ^ 64 → HasNewCodes old new fact codes → IsDistinct same_codes (codes_in sets codes)
    × ((key : Codes) → is_in (codes_in sets codes) key ≡ true → HasRoom fact.measures key (coded_at cells key))
codes_in-HasRoom {schema = schema} {sets = sets} {facts = facts} {old = old} {new = new} {cells = cells} {fact = fact}
    {codes = codes} is fit room has =
    let of = IsCodedFact-HasNewCodes is fit has in (
      codes_in-IsDistinct_from_fits is fit has.has,
      HasRoom-IsCoded schema sets facts old new cells fact codes is has.grown of.0 of.1
          (fits-measures schema fact fit) room,
    )

pub IsCoded-AddsFact : {schema : Layout} {sets : List ℕ} {facts : ℕ} {old new : Dictionaries} {cells : CodedCells}
    {fact : Fact} {codes : Codes} (more : CodedCells) → IsCoded schema sets facts old cells → fits schema fact ≡ true
    → HasNewCodes old new fact codes
    → AreApart more → AddsIn (codes_in sets codes) fact.measures cells more → IsCoded schema sets (facts + 1) new more
    × AddsFact fact (lattice_of schema sets facts old cells) (lattice_of schema sets (facts + 1) new more)
IsCoded-AddsFact {schema = schema} {sets = sets} {facts = facts} {old = old} {new = new} {cells = cells} {fact = fact}
    {codes = codes} more is fit has apart adds =
    let of = IsCodedFact-HasNewCodes is fit has in
    let coded = IsCoded-AddsIn schema sets facts old new cells more fact codes is has.grown of.0 of.1
    (fits-measures schema fact fit) apart adds in
    (coded, AddsFact-AddsIn schema sets facts old new cells more fact codes is has.grown of.0 of.1 adds coded.each)

-- ---- a growth is refused
pub IsCoded-SameCells : {schema : Layout} {sets : List ℕ} {facts : ℕ} {old : Dictionaries} {cells : CodedCells}
    {keys : List Codes} (new : Dictionaries) (others : CodedCells) → IsCoded schema sets facts old cells
    → AreGrown old new → All IsDictionary new
    → AreApart others → SameCoded keys cells others → IsCoded schema sets facts new others
    × SameCells (lattice_of schema sets facts old cells) (lattice_of schema sets facts new others)
IsCoded-SameCells {schema = schema} {sets = sets} {facts = facts} {old = old} {cells = cells}
    {keys = keys} new others is grown all apart same =
    let coded = IsCoded-SameCoded schema sets facts old new cells others keys is grown all apart same in
    (coded, SameCells-SameCoded schema sets facts old new cells others keys is grown all same coded.each)

pub IsCoded-SameCells_from_AreGrown : {schema : Layout} {sets : List ℕ} {facts : ℕ} {old : Dictionaries}
    {cells : CodedCells} (new : Dictionaries) → IsCoded schema sets facts old cells → AreGrown old new
    → All IsDictionary new → IsCoded schema sets facts new cells
    × SameCells (lattice_of schema sets facts old cells) (lattice_of schema sets facts new cells)
IsCoded-SameCells_from_AreGrown {cells = cells} new is grown all =
    IsCoded-SameCells new cells is grown all is.distinct (SameCoded-refl [] cells cells refl)
