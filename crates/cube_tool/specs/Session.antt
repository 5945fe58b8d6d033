-- What a session over feeds writes, how it ends, and what a failure of it leaves,
-- by the definitions alone (this project's choice).
use Rattle.std.specs.Prelude.{◌≡◌, ◌≤◌, ℕ, List, Option, IfSome}
use Rattle.cube_core.specs.Arrival.{Arrivals, of_source, of_sources}
use Rattle.cube_core.specs.Layout.{Layout}
use Rattle.cube_core.specs.Run.{SourceBytes}
use Rattle.cube_core.specs.declared.change.Item.{Item}
use Rattle.cube_live.specs.Live.{last_number}
use Rattle.cube_live.specs.Opening.{StartsOver}
use Rattle.cube_live.specs.Serving.{LeavesReplies}
use Rattle.cube_live.specs.Session.{AreReplies, arrivals_after}
use Rattle.cube_live.specs.declared.session.SessionFault.{SessionFault}
use Rattle.cube_tool.specs.Answering.{status_over}
use Rattle.cube_tool.specs.Run.{ExplainsRun, OfFeeds, Wrote}
use Rattle.cube_tool.specs.declared.command.failure.Failure.{Failure}
use Rattle.cube_tool.specs.declared.command.failure.Failure.TheVariants.{Run, Session}
use Rattle.cube_tool.specs.declared.command.status.Status.{Status}

-- no source has an item past the last record that the schema takes
abbrev pub AreWithin : Layout → Arrivals → Type 0
AreWithin s arrivals =
    (source : ℕ) → 1 ≤ source → source ≤ 64 → last_number (of_source arrivals source) ≤ s.max_records

-- a session over feeds was served to its end: the replies to its records were written,
-- from an arrival list that has of each source with a feed the items of its feed and of the others nothing,
-- no source has a record past those that the schema takes, and the status tells whether a line of a feed or a change
-- was refused
pub record ServesOver (s : Layout) (feeds : List (List Item)) (records : List (List (List ℕ))) (status : Status)
    (old new : Option (List ℕ)) : Type 0 where
  pub start : Arrivals
  pub starts : StartsOver feeds start
  pub replied : Wrote (AreReplies s start records) old new
  pub within : AreWithin s (arrivals_after s start records)
  pub status_is : status ≡ status_over s (of_sources 64 (arrivals_after s start records))

-- a session over feeds ended before its records did, and left from such an arrival list what its fault says
pub record BreaksOver (s : Layout) (feeds : List (List Item)) (records : List (List (List ℕ))) (fault : SessionFault)
    (old new : Option (List ℕ)) : Type 0 where
  pub start : Arrivals
  pub starts : StartsOver feeds start
  pub leaves : LeavesReplies s records start fault old new

-- what a failure of a session over feeds leaves, whose records are told where its input tells its bytes:
-- nothing was written where the feeds weren't taken, and else what the session leaves
abbrev pub FailsToServe : Layout → SourceBytes → Option (List (List (List ℕ))) → Failure → Option (List ℕ)
    → Option (List ℕ)
    → Type 0
FailsToServe s sources records (Run fault) old new = (new ≡ old) × ExplainsRun s sources fault
FailsToServe s sources records (Session fault) old new =
    OfFeeds s sources (λ feeds. IfSome records (λ taken. BreaksOver s feeds taken fault old new))
FailsToServe s sources records _ old new = ⊥
