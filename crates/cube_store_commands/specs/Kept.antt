-- What a journal over a store keeps, as a session sees it (this project's choice).
use Rattle.std.specs.Prelude.{◌≡◌, ℕ, List, Option}
use Rattle.sqlite_trees.specs.Tree.{Trees}
use Rattle.sqlite_trees.specs.View.{View}
use Rattle.sqlite_trees.specs.declared.error.StoreError.{StoreError}
use Rattle.sqlite_trees.specs.declared.error.StoreError.TheVariants as cause
use Rattle.cube_live.specs.Keeping.{FailsKept, Keeping}
use Rattle.cube_live.specs.Live.{LiveView}
use Rattle.cube_live.specs.declared.journal.JournalFault.{JournalFault}
use Rattle.cube_live.specs.declared.journal.JournalFault.TheVariants.{Failed, NoRoom, Memory}
use Rattle.cube_live.specs.declared.session.SessionFault.{SessionFault}
use Rattle.cube_store.specs.Keeping.{Batch, HasBroken, HasKept}
use Rattle.cube_store_commands.specs.Records.{stored_all}

-- what a failed call on a store is told as in a session
abbrev pub journal_fault_of : StoreError → JournalFault
journal_fault_of cause.OutOfMemory = Memory
journal_fault_of cause.Io = Failed
journal_fault_of cause.Corrupt = Failed
journal_fault_of cause.Full = NoRoom
journal_fault_of cause.Broken = Failed
journal_fault_of cause.Unstorable = NoRoom

module _ {S : Type 0} (view : S → View) (recovers : S → Trees → Type 0) where
  -- it keeps the changes that it was told of, as they are stored
  abbrev pub keeps : Batch S → Batch S → Keeping → Type 0
  keeps first now k = HasKept view recovers first now (stored_all k.told) k.sure

  -- the same, but that a call on it failed
  abbrev pub breaks : Batch S → Batch S → Keeping → Type 0
  breaks first now k = HasBroken view recovers first now (stored_all k.told) k.sure

  -- a session failed so, and its journal's store is this one then
  pub record FailsStored (live : LiveView) (begun : Batch S) (store : S) (fault : SessionFault)
      (old new : Option (List ℕ)) (records : List (List (List ℕ))) : Type 0 where
    pub ended : Batch S
    pub store_is : store ≡ ended.store
    pub fails : FailsKept keeps breaks begun ended live.schema records live fault old new
