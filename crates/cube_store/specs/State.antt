-- What a journal's store shows, and what each call does to it.
use Rattle.std.specs.Prelude.{◌≡◌, ◌≤◌, ◌<◌, ◌^◌, ◌==◌, if◌then◌else◌, ℕ, false, List, [], ◌∷◌}
use Rattle.std.specs.Prelude.{◌++◌, length, IsTrue}
use Rattle.std.specs.Prelude.{unwrap_or, ◌⊎◌, ⊤}
use Rattle.std.specs.List.{AllByRecursion}
use Rattle.sqlite_value.specs.Order.{Row}
use Rattle.sqlite_disk.specs.Disk.{MoreFaults}
use Rattle.sqlite_trees.specs.declared.store.Shape.TheVariants.{Table}
use Rattle.sqlite_trees.specs.declared.error.StoreError.{StoreError}
use Rattle.sqlite_trees.specs.declared.error.StoreError.TheVariants.{OutOfMemory, Io, Corrupt, Full}
use Rattle.sqlite_trees.specs.declared.error.StoreError.TheVariants.{Broken, Unstorable}
use Rattle.sqlite_trees.specs.Tree.{Trees}
use Rattle.sqlite_trees.specs.View.{View, doubt, IsClean, IsStorableRow}
use Rattle.cube_store.specs.Rows.{Entry, IsOfSource, rows_from, change_rows, change_row}
use Rattle.cube_store.specs.Rows.{last_digest, entries_in}
use Rattle.cube_store.specs.Rows.{AreChanges, AreNotes, DifferAt, IsForeignAt, IsUnchainedAt}
use Rattle.cube_store.specs.declared.form.RowForm.{RowForm}
use Rattle.cube_store.specs.declared.form.RowForm.TheVariants.{Plain, Chained}
use Rattle.cube_store.specs.declared.fault.OpenFault.{OpenFault}
use Rattle.cube_store.specs.declared.fault.OpenFault.TheVariants as kind

-- The changes so far, those that are committed, and what is noted of the feeds
-- (this project's choice).
abbrev pub held_in : View → List Entry
held_in v = entries_in (v.trees 0)

abbrev pub stored_in : View → List Entry
stored_in v = entries_in (v.committed 0)

abbrev pub noted_in : View → List Entry
noted_in v = entries_in (v.committed 1)

-- The form of a table of changes that is listed with these columns of the type REAL: a bit that
-- stands for no column of a row tells that its rows have digests (this project's choice).
abbrev pub form_by : ℕ → RowForm
form_by reals = if reals == 2 ^ 63 then Chained else Plain

-- The form of a store's table of changes, in the transaction and in the last commit
-- (this project's choice).
abbrev pub form_in : View → RowForm
form_in v = form_by (v.reals 0)

abbrev pub stored_form : View → RowForm
stored_form v = form_by (v.committed_reals 0)

-- The tables of a database are those of these changes, in this form and with right digests if they
-- have any, and of these notes, byte for byte (this project's choice).
pub record Holds (form : RowForm) (db : Trees) (changes notes : List Entry) : Type 0 where
  pub changes_are : db 0 ≡ change_rows form changes
  pub sources : AllByRecursion IsOfSource changes
  pub few : length changes ≤ 2 ^ 62
  pub notes_are : db 1 ≡ rows_from 0 notes

-- The store has the two tables, in the transaction as in the last commit (this project's choice).
pub record HasTables (v : View) : Type 0 where
  pub changes : v.shape 0 ≡ Table
  pub feeds : v.shape 1 ≡ Table
  pub unaltered : v.committed_shape ≡ v.shape
  pub same_form : v.committed_reals ≡ v.reals

-- What holds of a journal's store while no fault has shut it (this project's choice).
pub record IsStanding (v : View) (count committed : ℕ) (digest last : List ℕ) : Type 0 where
  pub sound : v.is_broken ≡ false
  pub held : AreChanges (form_in v) (v.trees 0) count
  pub stored : AreChanges (form_in v) (v.committed 0) committed
  pub digest_is : digest ≡ last_digest (form_in v) (held_in v)
  pub last_is : last ≡ last_digest (form_in v) (stored_in v)
  pub same_notes : v.trees 1 ≡ v.committed 1
  pub notes : AreNotes (v.committed 1) (noted_in v)

-- What holds of a journal's store between any two calls (this project's choice).
pub record IsJournal (v : View) (count committed : ℕ) (digest last : List ℕ) : Type 0 where
  pub tables : IsClean v → HasTables v
  pub few : count ≤ 2 ^ 62
  pub within : committed ≤ count
  pub standing : IsTrue v.is_open → IsStanding v count committed digest last

-- A store that is open on the tables of a list of changes, in its form, and these notes
-- (this project's choice).
pub record IsStore (v : View) (notes : List Entry) : Type 0 where
  pub is_open : IsTrue v.is_open
  pub tables : HasTables v
  pub holds : Holds (stored_form v) v.committed (stored_in v) notes

-- A store whose two tables have no row: its feeds aren't noted yet (this project's choice).
pub record IsUnmade (v : View) : Type 0 where
  pub is_open : IsTrue v.is_open
  pub tables : HasTables v
  pub none : (v.committed 0 ≡ []) × (v.committed 1 ≡ [])

-- The last commit of an open store has no row (this project's choice).
abbrev pub HasNoRow : View → Type 0
HasNoRow v = IsTrue v.is_open × (v.committed 0 ≡ []) × (v.committed 1 ≡ [])

-- Only cursors have moved (this project's choice).
abbrev pub OnlyReads : View → View → Type 0
OnlyReads old new = new ≡ record old { cursors = new.cursors }

-- What a cursor has left to give (this project's choice).
abbrev pub rows_left : View → ℕ → List Row
rows_left v cursor = unwrap_or (v.cursors cursor) []

-- These changes, one after another, lead a sink from one value to another (this project's choice).
abbrev pub LeadsTo : {K : Type 0} → (K → Entry → K → Type 0) → K → List Entry → K → Type 0
LeadsTo takes start [] end = start ≡ end
LeadsTo {K} takes start (change ∷ changes) end =
    (next : K) × takes start change next × LeadsTo takes next changes end

-- An open journal has the last commit of the store, and nothing more (this project's choice).
pub record Finds (was now : View) : Type 0 where
  pub was_open : IsTrue was.is_open
  pub is_open : IsTrue now.is_open
  pub stored : stored_in now ≡ stored_in was
  pub held : held_in now ≡ stored_in was
  pub noted : noted_in now ≡ noted_in was
  pub form : form_in now ≡ stored_form was

-- A new journal is open, has no change, and has these notes, in tables that had no row
-- (this project's choice).
pub record MakesJournal (notes : List Entry) (was now : View) : Type 0 where
  pub was_open : IsTrue was.is_open
  pub none_before : (was.committed 0 ≡ []) × (was.committed 1 ≡ [])
  pub is_open : IsTrue now.is_open
  pub stored : stored_in now ≡ []
  pub held : held_in now ≡ []
  pub noted : noted_in now ≡ notes
  pub form : form_in now ≡ stored_form was

-- In a table with these columns of the type REAL, the row of a change with this number can't be
-- stored, whatever 32 bytes its digest has (this project's choice).
abbrev pub CantHold : ℕ → ℕ → Entry → Type 0
CantHold reals number change = (digest : List ℕ) × (length digest ≡ 32)
    × (¬ IsStorableRow reals (change_row (form_by reals) digest number change))

-- A change can't be appended with this number: its row can't be stored, there is no number for it,
-- or it isn't of a source (this project's choice).
abbrev pub CantAppend : ℕ → ℕ → Entry → Type 0
CantAppend reals number change =
    CantHold reals number change ⊎ ((2 ^ 62 < number) ⊎ (¬ IsOfSource change))

module _ (old new : View) where
  -- The transaction has one change more, behind the others (this project's choice).
  pub record Appends (change : Entry) : Type 0 where
    pub is_open : IsTrue new.is_open
    pub held : held_in new ≡ held_in old ++ change ∷ []
    pub stored : stored_in new ≡ stored_in old
    pub noted : noted_in new ≡ noted_in old
    pub form : form_in new ≡ form_in old

  -- What wasn't committed is gone, unless a fault has shut the store (this project's choice).
  pub record Undoes : Type 0 where
    pub was_open : IsTrue new.is_open → IsTrue old.is_open
    pub held : IsTrue new.is_open → held_in new ≡ stored_in old
    pub stored : IsTrue new.is_open → stored_in new ≡ stored_in old
    pub noted : IsTrue new.is_open → noted_in new ≡ noted_in old

  -- The changes so far are committed (this project's choice).
  pub record Commits : Type 0 where
    pub is_open : IsTrue new.is_open
    pub held : held_in new ≡ held_in old
    pub stored : stored_in new ≡ held_in old
    pub noted : noted_in new ≡ noted_in old
    pub form : form_in new ≡ form_in old

-- No doubt and no fault is forgotten, and only a fault shuts an open store (this project's choice).
pub record ForgetsNothing {S : Type 0} (view : S → View) (faults : S → ℕ)
    (old new : S) : Type 0 where
  pub clean : doubt (view old).is_clean ≤ doubt (view new).is_clean
  pub counts : faults old ≤ faults new
  pub stays : IsClean (view new) → IsTrue (view old).is_open
      → IsTrue (view new).is_open ⊎ MoreFaults (faults old) (faults new)

-- Why a call on a store fails: out of memory, a fault of the disk or of the file, that the store
-- was shut, or that the row can't be stored (this project's choice).
abbrev pub IsCause : Type 0 → Type 0 → Type 0 → StoreError → Type 0
IsCause fault shut unstorable OutOfMemory = ⊤
IsCause fault shut unstorable Io = fault
IsCause fault shut unstorable Corrupt = fault
IsCause fault shut unstorable Full = fault
IsCause fault shut unstorable Broken = shut
IsCause fault shut unstorable Unstorable = unstorable

-- Why a store of these trees, with changes in this form, isn't opened with these notes: a call
-- failed, a table is wanting, the notes differ first at this feed, this row is the first that isn't
-- the next change with the right digest, which tells whether it is no such change or its digest is
-- another, or there are more than can be counted (this project's choice).
abbrev pub ExplainsUnopened : Type 0 → Type 0 → Type 0 → Type 0 → RowForm → Trees → List Entry
    → OpenFault → Type 0
ExplainsUnopened fault shut is_open tables form trees notes (kind.Store error) =
    IsCause fault shut ⊥ error
ExplainsUnopened fault shut is_open tables form trees notes kind.NoTables = tables → ⊥
ExplainsUnopened fault shut is_open tables form trees notes (kind.Feed source) =
    is_open × DifferAt (trees 1) (rows_from 0 notes) source
ExplainsUnopened fault shut is_open tables form trees notes (kind.Row number) =
    is_open × IsForeignAt form (trees 0) number
ExplainsUnopened fault shut is_open tables form trees notes (kind.Digest number) =
    is_open × IsUnchainedAt form (trees 0) number
ExplainsUnopened fault shut is_open tables form trees notes kind.TooMany =
    is_open × (2 ^ 62 < length (trees 0))

-- A call on the store failed, because memory ran out or by a fault, and not for what is stored
-- (this project's choice).
abbrev pub IsFailedCall : Type 0 → OpenFault → Type 0
IsFailedCall fault e =
    (error : StoreError) × (e ≡ kind.Store error) × ((error ≡ OutOfMemory) ⊎ fault)

-- A call on the store failed, or what is to be stored can't be (this project's choice).
abbrev pub FailsToStart : Type 0 → Type 0 → OpenFault → Type 0
FailsToStart fault unstorable e =
    IsFailedCall fault e ⊎ ((e ≡ kind.Store Unstorable) × unstorable)

-- An open journal has the last commit of a store with these notes (this project's choice).
abbrev pub FindsNoted : List Entry → View → View → Type 0
FindsNoted notes was now = Finds was now × (noted_in was ≡ notes)

-- A start has made a store with these notes, or has opened the one that was there,
-- which has them (this project's choice).
abbrev pub Starts : List Entry → View → View → Type 0
Starts notes was now = MakesJournal notes was now ⊎ FindsNoted notes was now
