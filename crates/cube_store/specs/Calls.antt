-- What a call does to a store of any kind, and why it fails.
use Rattle.std.specs.Prelude.{◌≡◌, ◌⊎◌, ℕ, Bool, false, List, [], ◌∷◌, ◌++◌}
use Rattle.std.specs.Prelude.{length, IsTrue, ⊤}
use Rattle.sqlite_disk.specs.Disk.{MoreFaults}
use Rattle.sqlite_trees.specs.declared.store.Store.{Ghosts}
use Rattle.sqlite_trees.specs.declared.store.Shape.TheVariants.{Table}
use Rattle.sqlite_trees.specs.declared.error.StoreError.{StoreError}
use Rattle.sqlite_trees.specs.Tree.{Trees, put_row}
use Rattle.sqlite_trees.specs.View.{View, IsClean, IsQuiet, SetsTree, HasCause}
use Rattle.cube_store.specs.declared.fault.OpenFault.{OpenFault}
use Rattle.cube_store.specs.declared.fault.OpenFault.TheVariants as kind
use Rattle.cube_store.specs.declared.note.FeedNote.{FeedNote}
use Rattle.cube_store.specs.Rows.{Entry, row_of, change_row, entry_of, entries_in, entries_of}
use Rattle.cube_store.specs.State.{held_in, stored_in, noted_in, form_in, stored_form, Holds}
use Rattle.cube_store.specs.State.{HasTables, IsStore, LeadsTo}
use Rattle.cube_store.specs.State.{ForgetsNothing, IsCause, ExplainsUnopened, HasNoRow}
use Rattle.cube_store.specs.State.{IsFailedCall}
use Rattle.cube_store.specs.Reading.{TellsWhether}
use Rattle.cube_store.specs.Making.{CantNote, LeavesNotes, LeavesEither}
use Rattle.cube_store.specs.Keeping.{Batch, HasKept, HasBroken, BatchKeepsOn}

-- The row of this change is put into the table of changes (this project's choice).
abbrev pub PutsChange : List ℕ → ℕ → Entry → View → View → Type 0
PutsChange digest number change old new =
    SetsTree old new 0 (put_row (change_row (form_in old) digest number change))

-- The row of this note is put into the table of notes (this project's choice).
abbrev pub PutsNote : ℕ → FeedNote → View → View → Type 0
PutsNote number note old new = SetsTree old new 1 (put_row (row_of number (entry_of note)))

-- A reading tells whether a table has no row (this project's choice).
abbrev pub TellsEmpty : ℕ → Bool → View → View → Type 0
TellsEmpty tree empty old new = TellsWhether old new (old.trees tree ≡ []) empty

-- A reading tells whether both tables have no row (this project's choice).
abbrev pub TellBothEmpty : Bool → View → View → Type 0
TellBothEmpty empty old new = TellsWhether old new ((old.trees 0 ≡ []) × (old.trees 1 ≡ [])) empty

-- The tables are those of the changes so far, and of the notes, byte for byte
-- (this project's choice).
abbrev pub HasHeld : View → Trees → Type 0
HasHeld v db = Holds (form_in v) db (held_in v) (noted_in v)

-- The tables are those of the last commit's changes, and of the notes, byte for byte
-- (this project's choice).
abbrev pub HasStored : View → Trees → Type 0
HasStored v db = Holds (form_in v) db (stored_in v) (noted_in v)

-- The changes so far and those of the last commit are these tables' (this project's choice).
abbrev pub HasChanges : View → Trees → Type 0
HasChanges v db = (stored_in v ≡ entries_in (db 0)) × (held_in v ≡ entries_in (db 0))

-- The last commit has these two tables (this project's choice).
abbrev pub HasCommitted : View → Trees → Type 0
HasCommitted v db = (v.committed 0 ≡ db 0) × (v.committed 1 ≡ db 1)

-- Some note can't be stored (this project's choice).
abbrev pub IsUnnotable : List FeedNote → Type 0
IsUnnotable notes = (reals : ℕ) × CantNote reals notes

-- The two tables are there (this project's choice).
abbrev pub AreTables : View → Type 0
AreTables v = (v.shape 0 ≡ Table) × (v.shape 1 ≡ Table)

module _ {S : Type 0} (s : Ghosts S) where
  -- No wrong answer of the disk was taken as true (SQLite's readings of a disk).
  abbrev pub IsHonest : S → Type 0
  IsHonest it = IsClean (s.view it)

  -- If none was, this holds of what a store showed and what it shows now (this project's choice).
  abbrev pub Shown : S → S → (View → View → Type 0) → Type 0
  Shown old new holds = IsHonest new → holds (s.view old) (s.view new)

  -- The disk failed or refused between two moments (this project's choice).
  abbrev pub HasFaulted : S → S → Type 0
  HasFaulted old new = MoreFaults (s.faults old) (s.faults new)

  -- Nothing was committed, and a crash leaves no more than before (this project's choice).
  abbrev pub IsQuietCall : S → S → Type 0
  IsQuietCall = IsQuiet s.view s.faults s.recovers s.is_shielded

  -- No doubt and no fault is forgotten, and only a fault shuts an open store
  -- (this project's choice).
  abbrev pub Remembers : S → S → Type 0
  Remembers = ForgetsNothing s.view s.faults

  -- A tree is a table (this project's choice).
  abbrev pub HasTable : S → ℕ → Type 0
  HasTable it tree = IsHonest it → (s.view it).shape tree ≡ Table

  -- A crash leaves nothing that it couldn't leave before (this project's choice).
  abbrev pub LeavesNoMore : S → S → Type 0
  LeavesNoMore old new = (db : Trees) → s.recovers new db → s.recovers old db

  -- A crash leaves all changes that there were so far (this project's choice).
  abbrev pub LeavesHeld : S → S → Type 0
  LeavesHeld old new = (db : Trees) → s.recovers new db → HasHeld (s.view old) db

  -- A crash leaves all changes that there were so far, or what it left before
  -- (this project's choice).
  abbrev pub LeavesHeldOrLess : S → S → Type 0
  LeavesHeldOrLess old new =
      (db : Trees) → s.recovers new db → (IsHonest old × HasHeld (s.view old) db)
      ⊎ s.recovers old db

  -- A crash leaves the changes of the last commit while no fault has shut the store
  -- (this project's choice).
  abbrev pub LeavesStored : S → Type 0
  LeavesStored it =
      IsTrue (s.view it).is_open → (db : Trees) → s.recovers it db → HasStored (s.view it) db

  -- A crash leaves these notes and no change, in tables that had no row, or what it left before
  -- (this project's choice).
  abbrev pub MayLeaveNotes : List Entry → S → S → Type 0
  MayLeaveNotes notes old new =
      (db : Trees) → s.recovers new db → LeavesNotes (s.view old) notes db ⊎ s.recovers old db

  -- A store is one of changes while no fault has shut it (this project's choice).
  abbrev pub StaysStore : S → Type 0
  StaysStore it = IsTrue (s.view it).is_open → IsStore (s.view it) (noted_in (s.view it))

  -- Whatever a crash leaves of a store is one of changes and of these notes
  -- (this project's choice).
  abbrev pub LeavesStores : S → List Entry → Type 0
  LeavesStores it notes = (db : Trees) → s.recovers it db
      → (changes : List Entry) × Holds (form_in (s.view it)) db changes notes

  -- A call that makes a store forgets nothing, and a crash leaves the notes alone, or what it left
  -- before (this project's choice).
  abbrev pub MakesOrLeaves : List Entry → S → S → Type 0
  MakesOrLeaves = LeavesEither s.view s.faults s.recovers

  -- A store is open, and no change waits for a commit (this project's choice).
  abbrev pub IsCommitted : S → Type 0
  IsCommitted it =
      IsHonest it → IsTrue (s.view it).is_open × (held_in (s.view it) ≡ stored_in (s.view it))

  -- The changes of a store's last commit lead a sink from one value to another
  -- (this project's choice).
  abbrev pub HandsOver : {K : Type 0} → (K → Entry → K → Type 0) → K → S → K → Type 0
  HandsOver takes start it end = IsHonest it → LeadsTo takes start (stored_in (s.view it)) end

  -- Why a write into the transaction fails (this project's choice).
  abbrev pub CantWrite : S → S → Type 0 → StoreError → Type 0
  CantWrite old new = HasCause (s.view old) (HasFaulted old new)

  -- Why a reading fails: memory, a fault, or one before it (this project's choice).
  abbrev pub CantRead : S → S → StoreError → Type 0
  CantRead old new = IsCause (HasFaulted old new) (IsTrue (s.view old).is_broken) ⊥

  -- Why a store can't be looked at: memory, a fault, or one that shut it before
  -- (this project's choice).
  abbrev pub CantLook : S → S → StoreError → Type 0
  CantLook old new =
      IsCause (HasFaulted old new) (((s.view old).is_open ≡ false) ⊎ HasFaulted old new) ⊥

  -- Why rows aren't put into a table: memory, a fault, or that one can't be stored
  -- (this project's choice).
  abbrev pub CantPut : S → S → Type 0 → StoreError → Type 0
  CantPut old new = IsCause (HasFaulted old new) (IsTrue (s.view old).is_broken)

  -- Why a call on a journal fails: memory, a fault, one that shut the store before, or that the
  -- change can't be stored (this project's choice).
  abbrev pub Fails : S → S → Type 0 → StoreError → Type 0
  Fails old new unstorable error =
      IsHonest new → IsCause (HasFaulted old new) ((s.view old).is_open ≡ false) unstorable error

  -- Why a store isn't read with these notes, where this says that both tables are there
  -- (this project's choice).
  abbrev pub IsntRead : S → S → Type 0 → List Entry → OpenFault → Type 0
  IsntRead old new tables notes =
      ExplainsUnopened (HasFaulted old new) (IsTrue (s.view old).is_broken)
      ((s.view old).is_broken ≡ false) tables (form_in (s.view old)) (s.view old).trees notes

  -- Why a store isn't opened with these notes (this project's choice).
  abbrev pub IsntOpened : S → S → List Entry → OpenFault → Type 0
  IsntOpened old new notes =
      ExplainsUnopened (HasFaulted old new) (((s.view old).is_open ≡ false) ⊎ HasFaulted old new)
      (IsTrue (s.view old).is_open) (HasTables (s.view old)) (stored_form (s.view old))
      (s.view old).committed notes

  -- Why a store isn't made with these notes: memory, a fault, or that one can't be stored
  -- (this project's choice).
  abbrev pub IsntMade : S → S → List FeedNote → OpenFault → Type 0
  IsntMade old new notes fault = (error : StoreError) × (fault ≡ kind.Store error)
      × IsCause (HasFaulted old new) ⊥ (IsUnnotable notes) error

  -- Why a store is neither opened nor made with these notes (this project's choice).
  abbrev pub IsntStarted : S → S → List FeedNote → OpenFault → Type 0
  IsntStarted old new notes fault =
      IsntOpened old new (entries_of notes) fault ⊎ IsntMade old new notes fault

  -- Why a store that was made before isn't opened with these notes, or that it has no row
  -- (this project's choice).
  abbrev pub IsntReopened : S → S → List Entry → OpenFault → Type 0
  IsntReopened old new notes fault =
      IsntOpened old new notes fault ⊎ ((fault ≡ kind.NoTables) × HasNoRow (s.view old))

  -- Why nothing is taken after a crash: a call failed, or what the crash left isn't a store with
  -- these notes (this project's choice).
  abbrev pub IsntFound : S → S → List Entry → OpenFault → Type 0
  IsntFound old new notes fault = IsFailedCall (HasFaulted old new) fault
      ⊎ ((db : Trees) × s.recovers old db × ExplainsUnopened (HasFaulted old new)
      (HasFaulted old new) ⊤ ⊤ (form_in (s.view old)) db notes fault)

  -- A journal goes on from what it kept, with this change behind the others
  -- (this project's choice).
  abbrev pub KeepsMore : Batch S → Batch S → Entry → Type 0
  KeepsMore old new change = BatchKeepsOn s.view s.recovers (HasKept s.view s.recovers) old new
      (λ changes. changes ++ change ∷ []) (λ _ sure. sure)

  -- A journal failed at this change, and a crash leaves what was certain (this project's choice).
  abbrev pub BreaksAt : Batch S → Batch S → Entry → Type 0
  BreaksAt old new change = BatchKeepsOn s.view s.recovers (HasBroken s.view s.recovers) old new
      (λ changes. changes ++ change ∷ []) (λ _ sure. sure)

  -- A journal keeps what it kept (this project's choice).
  abbrev pub KeepsOn : Batch S → Batch S → Type 0
  KeepsOn old new =
      BatchKeepsOn s.view s.recovers (HasKept s.view s.recovers) old new
      (λ changes. changes) (λ _ sure. sure)

  -- A journal failed, and a crash leaves what was certain (this project's choice).
  abbrev pub Breaks : Batch S → Batch S → Type 0
  Breaks old new =
      BatchKeepsOn s.view s.recovers (HasBroken s.view s.recovers) old new
      (λ changes. changes) (λ _ sure. sure)

  -- A journal keeps what it kept, and all of it is certain (this project's choice).
  abbrev pub MakesSure : Batch S → Batch S → Type 0
  MakesSure old new = BatchKeepsOn s.view s.recovers (HasKept s.view s.recovers) old new
      (λ changes. changes) (λ changes _. length changes)
