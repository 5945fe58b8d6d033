-- The words of the laws on refusals: what an item that isn't refused does, and why one is (this project's choice).
use Rattle.std.specs.Prelude.{◌≡◌, ◌≢◌, ℕ, true, false, List, [], ◌∷◌, ◌++◌, Option, Some, None, IsSome, Result}
use Rattle.std.specs.Prelude.{Ok, Err}
use Rattle.cube_core.specs.Amendment.{over}
use Rattle.cube_core.specs.Layout.{Layout}
use Rattle.cube_core.specs.Life.{id_of, life_of, changes_of}
use Rattle.cube_core.specs.Takes.{takes}
use Rattle.cube_core.specs.declared.change.Change.{Change}
use Rattle.cube_core.specs.declared.change.Change.TheVariants.{Insert, Update, Amend, Upsert, Delete, Remove}
use Rattle.cube_core.specs.declared.change.Item.{Item}
use Rattle.cube_core.specs.declared.change.LineFault.{LineFault}
use Rattle.cube_core.specs.declared.change.LineFault.TheVariants as fault
use Rattle.cube_core.specs.declared.fact.Fact.{Fact}
use Rattle.cube_core.specs.declared.partial.Partial.{Partial}

-- a change is made of the id that it names: what the life of the id was before it, and what it is after it
abbrev pub Makes : Change → Option Fact → Option Fact → Type 0
Makes (Insert id fact) old new = (old ≡ None) × (new ≡ Some fact)
Makes (Update id fact) old new = IsSome old × (new ≡ Some fact)
Makes (Amend id part) old new = (fact : Fact) × (old ≡ Some fact) × (new ≡ Some (over part fact))
Makes (Upsert id fact) old new = new ≡ Some fact
Makes (Delete id) old new = IsSome old × (new ≡ None)
Makes (Remove id) old new = new ≡ None

-- an item after others is made: it says a change that the schema takes, which is made of its id and of no other
pub record IsMade (s : Layout) (before : List Item) (item : Item) : Type 0 where
  pub change : Change
  pub said : item.what ≡ Ok change
  pub taken : takes s change ≡ true
  pub made : Makes change (life_of (id_of change) (changes_of s before))
      (life_of (id_of change) (changes_of s (before ++ item ∷ [])))
  pub others : (id : List ℕ) → id_of change ≢ id
      → life_of id (changes_of s (before ++ item ∷ [])) ≡ life_of id (changes_of s before)

-- why an item is refused: its record is at fault, the schema doesn't take its change, or the id that this names is
-- present already, or absent
pub data Reason : Type 0 where
  AtFault : LineFault → Reason
  NotTaken : Reason
  AlreadyPresent : Reason
  StillAbsent : Reason

-- an id is present, or absent, after the changes of items that the schema takes
abbrev pub IsPresentAfter : Layout → List Item → List ℕ → Type 0
IsPresentAfter s before id = IsSome (life_of id (changes_of s before))

abbrev pub IsAbsentAfter : Layout → List Item → List ℕ → Type 0
IsAbsentAfter s before id = life_of id (changes_of s before) ≡ None

-- why what an item says is refused after these items
pub data WhyRefused (s : Layout) (before : List Item) : Result Change LineFault → Reason → Type 0 where
  at_fault : (line_fault : LineFault) → WhyRefused s before (Err line_fault) (AtFault line_fault)
  not_taken : (change : Change) → takes s change ≡ false → WhyRefused s before (Ok change) NotTaken
  insert_of_present : (id : List ℕ) (fact : Fact) → takes s (Insert id fact) ≡ true → IsPresentAfter s before id
      → WhyRefused s before (Ok (Insert id fact)) AlreadyPresent
  update_of_absent : (id : List ℕ) (fact : Fact) → takes s (Update id fact) ≡ true → IsAbsentAfter s before id
      → WhyRefused s before (Ok (Update id fact)) StillAbsent
  amendment_of_absent : (id : List ℕ) (part : Partial) → takes s (Amend id part) ≡ true → IsAbsentAfter s before id
      → WhyRefused s before (Ok (Amend id part)) StillAbsent
  delete_of_absent : (id : List ℕ) → takes s (Delete id) ≡ true → IsAbsentAfter s before id
      → WhyRefused s before (Ok (Delete id)) StillAbsent

-- the code of a reason where the feeds are of version 1, and where they are of version 2
abbrev pub code_in_version_1 : Reason → ℕ
code_in_version_1 (AtFault fault.Op) = 1
code_in_version_1 (AtFault fault.Fields) = 2
code_in_version_1 (AtFault fault.Text) = 3
code_in_version_1 (AtFault fault.Id) = 4
code_in_version_1 (AtFault fault.Measure) = 5
code_in_version_1 (AtFault fault.Keep) = 8
code_in_version_1 AlreadyPresent = 6
code_in_version_1 StillAbsent = 7
code_in_version_1 NotTaken = 8

abbrev pub code_in_version_2 : Reason → ℕ
code_in_version_2 (AtFault fault.Op) = 1
code_in_version_2 (AtFault fault.Fields) = 2
code_in_version_2 (AtFault fault.Text) = 3
code_in_version_2 (AtFault fault.Id) = 4
code_in_version_2 (AtFault fault.Measure) = 5
code_in_version_2 (AtFault fault.Keep) = 6
code_in_version_2 AlreadyPresent = 7
code_in_version_2 StillAbsent = 8
code_in_version_2 NotTaken = 9
