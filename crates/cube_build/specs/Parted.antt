-- The books of all sources, and the cubes of the parts of the grouping sets,
-- which are behind the books by the facts that wait (this project's choice).
use Rattle.std.specs.Prelude.{◌≡◌, ◌≤◌, ◌<◌, ◌++◌, ℕ, true, false, List, length, get_or, All, Option}
use Rattle.std.specs.Option.{option_to_list}
use Rattle.std.specs.List.Sorted.{IsPermutation}
use Rattle.cube_core.specs.GroupingSet.{sets_of_part}
use Rattle.cube_core.specs.Layout.{Layout, cube_schema}
use Rattle.cube_core.specs.declared.fact.Fact.{Fact}
use Rattle.cube_cells.specs.CountedCube.{CountedView, HasCounted, fits_counted}
use Rattle.cube_cells.specs.Cube.{Lattice, SameSets}
use Rattle.cube_build.specs.Builder.{HasFacts, IsCountedFor}
use Rattle.cube_ledger.specs.Ledger.{AllFit, LedgerView, all_facts}
use Rattle.cube_build.specs.declared.parted.Part.{Part}

-- a counted cube counts as many texts as another, over the same sets
pub record SameCounted (old new : CountedView) : Type 0 where
  pub texts : new.texts ≡ old.texts
  pub same : SameSets old.cube new.cube

-- facts fit what a counted cube takes
abbrev pub AllFitCounted : CountedView → List Fact → Type 0
AllFitCounted cube facts = All (λ fact. fits_counted cube.texts cube.cube.schema fact ≡ true) facts

-- a counted cube over the same sets has these facts more
pub record GainsCounted (facts : List Fact) (old new : CountedView) : Type 0 where
  pub same : SameCounted old new
  pub has : (before : List Fact) → HasCounted before old → HasCounted (facts ++ before) new

-- a counted cube over the same sets has these facts less
pub record LosesCounted (facts : List Fact) (old new : CountedView) : Type 0 where
  pub same : SameCounted old new
  pub has : (left : List Fact) → HasCounted (facts ++ left) old → HasCounted left new

-- a counted cube can gain the facts that came and lose those that are gone:
-- all of them fit, and with those that came it has those that are gone and some others
pub record MaySettle (come gone : List Fact) (cube : CountedView) : Type 0 where
  pub come_fit : AllFitCounted cube come
  pub gone_fit : AllFitCounted cube gone
  pub counted : List Fact
  pub left : List Fact
  pub has : HasCounted counted cube
  pub owed : IsPermutation (come ++ counted) (gone ++ left)

-- a counted cube over the same sets has gained the facts that came and lost those that are gone
pub record Settles (come gone : List Fact) (old new : CountedView) : Type 0 where
  pub same : SameCounted old new
  pub has : (counted left : List Fact) → HasCounted counted old → IsPermutation (come ++ counted) (gone ++ left)
      → HasCounted left new

-- the cube of a part, of so many, is over its grouping sets under the schema of a schema's cube
pub record IsPartOver (s : Layout) (parts part : ℕ) (cube : Lattice) : Type 0 where
  pub schema : cube.schema ≡ cube_schema s
  pub sets : cube.sets ≡ sets_of_part part parts s.grouping_sets

-- the counted cube of a part, of so many, is for facts of a schema's feeds, over the part's grouping sets
pub record IsPartFor (s : Layout) (parts part : ℕ) (cube : CountedView) : Type 0 where
  pub is : IsCountedFor s cube
  pub sets : cube.cube.sets ≡ sets_of_part part parts s.grouping_sets

-- the cube of a part, of so many, has the facts of the books, but for those that came and those that are gone since
pub record IsPartBehind (s : Layout) (facts come gone : List Fact) (parts part : ℕ) (cube : CountedView) : Type 0 where
  pub over : IsPartFor s parts part cube
  pub counted : List Fact
  pub has : HasCounted counted cube
  pub owed : IsPermutation (come ++ counted) (gone ++ facts)

-- the cubes of all parts have the facts of the books of a ledger, which fit,
-- but for those that came and those that are gone since
pub record AreBehind (ledger : LedgerView) (parts : List Part) (come gone : List Fact) : Type 0 where
  pub some : 1 ≤ length parts
  pub fit : AllFit ledger.schema (all_facts ledger.accounts)
  pub come_fit : AllFit ledger.schema come
  pub gone_fit : AllFit ledger.schema gone
  pub each : (part : ℕ) (d : Part) → part < length parts
      → IsPartBehind ledger.schema (all_facts ledger.accounts) come gone (length parts) part (get_or parts part d).cube

-- the cube of each part, of so many, is so
abbrev pub ArePartsFor : Layout → ℕ → List Part → Type 0
ArePartsFor s count parts =
    (part : ℕ) (d : Part) → part < length parts → IsPartFor s count part (get_or parts part d).cube

-- a counted cube over the same sets was filled with these facts
pub record Fills (facts : List Fact) (old new : CountedView) : Type 0 where
  pub same : SameCounted old new
  pub has : HasCounted facts new

-- of these parts, each that isn't spent was filled with these facts
abbrev pub AllFill : List Fact → List Part → List Part → Type 0
AllFill facts old new =
    (part : ℕ) (d : Part) → part < length old → (get_or new part d).is_spent ≡ false
    → Fills facts (get_or old part d).cube (get_or new part d).cube

-- the cube of a part, of so many, has these facts
pub record IsPartWith (s : Layout) (facts : List Fact) (parts part : ℕ) (cube : Lattice) : Type 0 where
  pub over : IsPartOver s parts part cube
  pub has : HasFacts s facts cube

-- what has a cube each, and is at least one, are the parts of the cube of some facts under a schema:
-- the cube of each is over the grouping sets of the part of its place, and has the facts
pub record ArePartsOf {Holder : Type 0} (cube_of : Holder → Lattice) (s : Layout) (facts : List Fact)
    (parts : List Holder) : Type 0 where
  pub some : 1 ≤ length parts
  pub each : (part : ℕ) (d : Holder) → part < length parts
      → IsPartWith s facts (length parts) part (cube_of (get_or parts part d))

-- the cubes of all parts, of which there is one at least, have these facts under a schema
abbrev pub ArePartsWith : Layout → List Fact → List Part → Type 0
ArePartsWith s facts parts = ArePartsOf (λ part. part.cube.cube) s facts parts

-- of these parts, each that isn't spent has settled
abbrev pub AllSettle : List Fact → List Fact → List Part → List Part → Type 0
AllSettle come gone old new =
    (part : ℕ) (d : Part) → part < length old → (get_or new part d).is_spent ≡ false
    → Settles come gone (get_or old part d).cube (get_or new part d).cube

-- a fact, where there is one, was put behind others
abbrev pub Notes : Option Fact → List Fact → List Fact → Type 0
Notes fact old new = new ≡ old ++ option_to_list fact
