-- What a check of printed cubes knows by a merge of them.
use Rattle.std.proofs.Common.{ℕ, List, Option, refl}
use Rattle.cube_core.specs.Layout.{Layout}
use Rattle.cube_core.specs.Text.{text_of_rows}
use Rattle.cube_merge.specs.Merging.{IsMergeOf}
use Rattle.cube_merge.specs.declared.fault.MergeFault.TheVariants as fault
use Rattle.cube_tool.specs.MergingCubes.{CanBeMerged, CheckFails, MergeLeaves}
use Rattle.cube_tool.specs.declared.command.failure.Failure.{Failure}
use Rattle.cube_tool.specs.declared.command.failure.Failure.TheVariants.{Unreadable, Schema, TooManyFeeds, InputTaken}
use Rattle.cube_tool.specs.declared.command.failure.Failure.TheVariants.{NoRandomKey, FeedUnreadable, Query}
use Rattle.cube_tool.specs.declared.command.failure.Failure.TheVariants.{UnknownCode, Run, Session, TooManyCubes}
use Rattle.cube_tool.specs.declared.command.failure.Failure.TheVariants.{SamePath, Merge, LineRefused, TooManyCells}

-- what was merged can be
pub CanBeMerged-merged : (given wanted : Layout) (texts : List (Option (List ℕ))) (old new : Option (List ℕ))
    → IsMergeOf given wanted texts old new → CanBeMerged given wanted texts
CanBeMerged-merged given wanted texts old new merged = (
  text_of_rows wanted merged.rows,
  record {
    cubes = merged.cubes;
    parts = merged.parts;
    rows = merged.rows;
    as_many = merged.as_many;
    read = merged.read;
    of_schema = merged.of_schema;
    consistent = merged.consistent;
    ordered = merged.ordered;
    complete = merged.complete;
    drawn = merged.drawn;
    merged = merged.merged;
    fit = merged.fit;
    written = refl;
  },
)

-- what a merge that failed says of its texts
pub CheckFails-leaves : (given wanted : Layout) (texts : List (Option (List ℕ))) (failure : Failure)
    (old new : Option (List ℕ)) → MergeLeaves given wanted texts failure old new → CheckFails given texts failure
CheckFails-leaves given wanted texts (Merge fault.Memory) old new leaves = tt
CheckFails-leaves given wanted texts (Merge fault.Aggregates) old new leaves = tt
CheckFails-leaves given wanted texts (Merge (fault.Input why input number)) old new leaves = leaves.1
CheckFails-leaves given wanted texts (Merge (fault.Write sent)) old new leaves = tt
CheckFails-leaves given wanted texts Unreadable old new leaves = absurd leaves
CheckFails-leaves given wanted texts (Schema why) old new leaves = absurd leaves
CheckFails-leaves given wanted texts TooManyFeeds old new leaves = absurd leaves
CheckFails-leaves given wanted texts InputTaken old new leaves = absurd leaves
CheckFails-leaves given wanted texts NoRandomKey old new leaves = absurd leaves
CheckFails-leaves given wanted texts (FeedUnreadable source) old new leaves = absurd leaves
CheckFails-leaves given wanted texts (Query why) old new leaves = absurd leaves
CheckFails-leaves given wanted texts UnknownCode old new leaves = absurd leaves
CheckFails-leaves given wanted texts (Run why) old new leaves = absurd leaves
CheckFails-leaves given wanted texts (LineRefused source number code) old new leaves = absurd leaves
CheckFails-leaves given wanted texts TooManyCells old new leaves = absurd leaves
CheckFails-leaves given wanted texts (Session why) old new leaves = absurd leaves
CheckFails-leaves given wanted texts TooManyCubes old new leaves = absurd leaves
CheckFails-leaves given wanted texts (SamePath input) old new leaves = absurd leaves
