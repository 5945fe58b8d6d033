-- What a session over feeds and a store writes and leaves (this project's choice).
use Rattle.std.specs.Prelude.{◌≡◌, ◌++◌, ◌⊎◌, ⊤, ℕ, List, Option, IfSome}
use Rattle.sqlite_trees.specs.Tree.{Trees}
use Rattle.sqlite_trees.specs.View.{View}
use Rattle.cube_core.specs.Arrival.{Arrivals, of_sources}
use Rattle.cube_core.specs.Layout.{Layout}
use Rattle.cube_core.specs.Run.{SourceBytes}
use Rattle.cube_core.specs.declared.change.Item.{Item}
use Rattle.cube_store.specs.Making.{LeavesNotes}
use Rattle.cube_store.specs.Rows.{Entry}
use Rattle.cube_store.specs.State.{held_in, stored_in, stored_form, Holds}
use Rattle.cube_store.specs.declared.store_fault.StoreFault.{StoreFault}
use Rattle.cube_live.specs.Keeping.{LeavesAt}
use Rattle.cube_live.specs.Opening.{StartsOver}
use Rattle.cube_live.specs.Session.{AreReplies, arrivals_after}
use Rattle.cube_live.specs.declared.session.SessionFault.{SessionFault}
use Rattle.cube_store_commands.specs.Replay.{PassesLast, arrivals_from}
use Rattle.cube_store_commands.specs.Serving.{LeavesFirst, changes_in}
use Rattle.cube_store_commands.specs.declared.session.StoredFault.{StoredFault}
use Rattle.cube_store_commands.specs.declared.session.StoredFault.TheVariants as stored
use Rattle.cube_tool.specs.Answering.{status_over}
use Rattle.cube_tool.specs.Command.{status_of}
use Rattle.cube_tool.specs.Run.{ExplainsRun, OfFeeds, Wrote}
use Rattle.cube_tool.specs.Session.{AreWithin}
use Rattle.cube_tool.specs.declared.command.failure.Failure.{Failure as CommandFailure}
use Rattle.cube_tool.specs.declared.command.failure.Failure.TheVariants.{Run, Session}
use Rattle.cube_tool.specs.declared.command.status.Status.{Status}
use Rattle.cube_tool.specs.declared.command.status.Status.TheVariants.{Failed}
use Rattle.cube_tool.specs.declared.fault.RunFault.TheVariants as run_fault
use Rattle.cube_store_commands.specs.declared.failure.StoredFailure.{StoredFailure}
use Rattle.cube_store_commands.specs.declared.failure.StoredFailure.TheVariants.{Failure, Store, TooMany}

-- what a command is told that failed so
abbrev pub failure_of : StoredFault → StoredFailure
failure_of (stored.Store fault) = Store fault
failure_of (stored.TooMany source) = TooMany source
failure_of (stored.Session fault) = Failure (Session fault)

-- the status that a failure ends with
abbrev pub status_of_stored : StoredFailure → Status
status_of_stored (Failure failure) = status_of failure
status_of_stored (Store fault) = Failed
status_of_stored (TooMany source) = Failed

-- a session over feeds and a store was served to its end: the replies to its records were written,
-- from an arrival list that has the items of the feeds and then the stored changes;
-- no source has a record past those that the schema takes;
-- the store has the changes that it had and those of the session, and so leaves each crash
pub record ServesStoredOver (s : Layout) (feeds : List (List Item)) (was : View) (notes : List Entry)
    (records : List (List (List ℕ))) (status : Status) (now : View) (Leaves : Trees → Type 0)
    (old new : Option (List ℕ)) : Type 0 where
  pub start : Arrivals
  pub starts : StartsOver feeds start
  pub replied : Wrote (AreReplies s (arrivals_from s start (stored_in was)) records) old new
  pub within : AreWithin s (arrivals_after s (arrivals_from s start (stored_in was)) records)
  pub status_is : status
      ≡ status_over s (of_sources 64 (arrivals_after s (arrivals_from s start (stored_in was)) records))
  pub held : held_in now ≡ stored_in was ++ changes_in s records
  pub leaves : (db : Trees) → Leaves db → Holds (stored_form was) db (stored_in was ++ changes_in s records) notes

-- one that ended before its records did left what its fault says of the replies,
-- and a first part of its changes in the store
pub record BreaksStoredOver (s : Layout) (feeds : List (List Item)) (was : View) (notes : List Entry)
    (records : List (List (List ℕ))) (fault : SessionFault) (Leaves : Trees → Type 0) (old new : Option (List ℕ))
    : Type 0 where
  pub count : ℕ
  pub kept : LeavesFirst s was notes records count Leaves
  pub start : Arrivals
  pub starts : StartsOver feeds start
  pub leaves : LeavesAt s records (arrivals_from s start (stored_in was)) fault count old new

-- the stored changes have more of a source than the schema takes, behind an arrival list that has the items of the feeds
pub record HasTooManyOver (s : Layout) (feeds : List (List Item)) (was : View) (source : ℕ) : Type 0 where
  pub start : Arrivals
  pub starts : StartsOver feeds start
  pub passes : PassesLast s start (stored_in was) source

-- what a failure of a session over feeds and a store leaves: where the feeds or the store weren't taken nothing was
-- written, and the store leaves what it left or, where it had no row, the notes alone
abbrev pub FailsToServeStored : Layout → SourceBytes → Option (List (List (List ℕ))) → View → List Entry
    → (Trees → Type 0)
    → (Trees → Type 0) → StoredFailure → Option (List ℕ) → Option (List ℕ) → Type 0
FailsToServeStored s sources records was notes Before Leaves (Failure (Run fault)) old new =
    (new ≡ old) × ExplainsRun s sources fault × ((db : Trees) → Leaves db → Before db)
FailsToServeStored s sources records was notes Before Leaves (Failure (Session fault)) old new =
    OfFeeds s sources (λ feeds. IfSome records (λ taken. BreaksStoredOver s feeds was notes taken fault Leaves old new))
FailsToServeStored s sources records was notes Before Leaves (Failure _) old new = ⊥
FailsToServeStored s sources records was notes Before Leaves (Store fault) old new =
    IfSome records (λ taken. (new ≡ old) × ((db : Trees) → Leaves db → LeavesNotes was notes db ⊎ Before db))
FailsToServeStored s sources records was notes Before Leaves (TooMany source) old new =
    OfFeeds s sources (λ feeds. IfSome records (λ taken. (new ≡ old) × HasTooManyOver s feeds was source
    × ((db : Trees) → Leaves db → LeavesNotes was notes db ⊎ Before db)))

-- a command that failed so has written nothing, unless its session was begun, or the writing itself failed
abbrev pub FailsUnwritten : CommandFailure → Option (List ℕ) → Option (List ℕ) → Type 0
FailsUnwritten (Session fault) old new = ⊤
FailsUnwritten (Run (run_fault.Write sent)) old new = ⊤
FailsUnwritten _ old new = new ≡ old

-- the same of a command over a store, which has written nothing either where the store wasn't taken
abbrev pub LeavesUnwritten : StoredFailure → Option (List ℕ) → Option (List ℕ) → Type 0
LeavesUnwritten (Failure failure) old new = FailsUnwritten failure old new
LeavesUnwritten (Store fault) old new = new ≡ old
LeavesUnwritten (TooMany source) old new = new ≡ old

-- where the store isn't taken, and that isn't for too many changes of a source, this holds of what a command is told
abbrev pub IfStoreRefused : (StoreFault → Type 0) → StoredFailure → Type 0
IfStoreRefused holds (Failure failure) = ⊤
IfStoreRefused holds (Store fault) = holds fault
IfStoreRefused holds (TooMany source) = ⊤
