-- What the merging of printed cubes answers, and what is said of their paths (this project's choice).
use Rattle.std.specs.Prelude.{◌≡◌, ◌<◌, ⊤, ◌⊎◌, ℕ, List, [], length, get_or, Option, Some, None}
use Rattle.cube_core.specs.Layout.{Layout}
use Rattle.cube_merge.specs.Faults.{FailsToMerge, InputFails}
use Rattle.cube_merge.specs.Merging.{IsMergeOf}
use Rattle.cube_merge.specs.declared.fault.MergeFault.{MergeFault}
use Rattle.cube_merge.specs.declared.fault.MergeFault.TheVariants as fault
use Rattle.cube_tool.specs.declared.command.failure.Failure.{Failure}
use Rattle.cube_tool.specs.declared.command.failure.Failure.TheVariants.{Merge}
use Rattle.cube_tool.specs.declared.command.merging.FileIdentity.{FileIdentity}
use Rattle.cube_tool.specs.declared.command.merging.NamedCube.{NamedCube}

-- what a merge of these texts that failed leaves
abbrev pub MergeLeaves : Layout → Layout → List (Option (List ℕ)) → Failure → Option (List ℕ) → Option (List ℕ) → Type 0
MergeLeaves given wanted texts (Merge why) old new = FailsToMerge given wanted texts why old new
MergeLeaves given wanted texts _ old new = ⊥

-- these texts can be merged
abbrev pub CanBeMerged : Layout → Layout → List (Option (List ℕ)) → Type 0
CanBeMerged given wanted texts = (text : List ℕ) × IsMergeOf given wanted texts (Some []) (Some text)

-- why these texts can't be merged: the fault of one of them; where memory ran out nothing is said of them
abbrev pub CannotBeMerged : Layout → List (Option (List ℕ)) → MergeFault → Type 0
CannotBeMerged given texts fault.Memory = ⊤
CannotBeMerged given texts fault.Aggregates = ⊤
CannotBeMerged given texts (fault.Input why input number) = InputFails given texts why input number
CannotBeMerged given texts (fault.Write sent) = ⊤

-- the same of a failure
abbrev pub CheckFails : Layout → List (Option (List ℕ)) → Failure → Type 0
CheckFails given texts (Merge why) = CannotBeMerged given texts why
CheckFails given texts _ = ⊥

-- two files are one: both are regular, and they have the same inode on the same device (POSIX, st_dev and st_ino)
abbrev pub AreOneFile : Option FileIdentity → Option FileIdentity → Type 0
AreOneFile (Some one) (Some other) = one ≡ other
AreOneFile one other = ⊥

-- two cubes to merge are one: their paths are the same, letter by letter, or their files are one
abbrev pub AreOneCube : NamedCube → NamedCube → Type 0
AreOneCube one other = (one.path.now ≡ other.path.now) ⊎ AreOneFile one.file other.file

-- the cube at a place stands at an earlier place too
abbrev pub StandsBefore : List NamedCube → ℕ → Type 0
StandsBefore cubes place =
    (earlier : ℕ) × (earlier < place) × ((d : NamedCube) → AreOneCube (get_or cubes earlier d) (get_or cubes place d))

-- the first place whose cube stands at an earlier place too; None where no two are one
abbrev pub IsFirstRepeated : List NamedCube → Option ℕ → Type 0
IsFirstRepeated cubes (Some place) =
    (place < length cubes) × StandsBefore cubes place × ((k : ℕ) → k < place → StandsBefore cubes k → ⊥)
IsFirstRepeated cubes None = (k : ℕ) → k < length cubes → StandsBefore cubes k → ⊥
