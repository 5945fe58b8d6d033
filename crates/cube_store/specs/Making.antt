-- The notes of a new store.
use Rattle.std.specs.Prelude.{◌≡◌, ◌<◌, ◌≤◌, ◌^◌, ◌⊎◌, ℕ, Bool, true, false, List, [], length}
use Rattle.std.specs.Prelude.{get_or}
use Rattle.std.specs.Prelude.{IsTrue}
use Rattle.sqlite_trees.specs.Tree.{Trees}
use Rattle.sqlite_trees.specs.View.{View, IsClean, IsStorableRow}
use Rattle.cube_store.specs.Rows.{Entry, row_of, entry_of, AreNotes}
use Rattle.cube_store.specs.State.{HasTables, Holds, IsUnmade, ForgetsNothing, form_in, stored_form}
use Rattle.cube_store.specs.declared.form.RowForm.{RowForm}
use Rattle.cube_store.specs.declared.note.FeedNote.{FeedNote}

-- The table of notes has these, and nothing else is written (this project's choice).
pub record WritesNotes (old new : View) (notes : List Entry) : Type 0 where
  pub others : new ≡ record old { trees = new.trees; cursors = new.cursors }
  pub changes : new.trees 0 ≡ old.trees 0
  pub notes_are : AreNotes (new.trees 1) notes

-- A note can't be stored with this number: its row can't be, or its feed is too long
-- (this project's choice).
abbrev pub CantNoteAt : ℕ → ℕ → FeedNote → Type 0
CantNoteAt reals number note =
    (¬ IsStorableRow reals (row_of number (entry_of note))) ⊎ (2 ^ 63 ≤ note.length)

-- One of these notes can't be stored (this project's choice).
pub record CantNote (reals : ℕ) (notes : List FeedNote) : Type 0 where
  pub place : ℕ
  pub note : FeedNote
  pub within : place < length notes
  pub note_is : note ≡ get_or notes place note
  pub why : CantNoteAt reals place note

-- A store with a table of changes of this form has these notes committed, and no change
-- (this project's choice).
pub record IsMade (form : RowForm) (now : View) (notes : List Entry) : Type 0 where
  pub sound : now.is_broken ≡ false
  pub tables : HasTables now
  pub form_is : form_in now ≡ form
  pub same : now.trees ≡ now.committed
  pub changes : now.committed 0 ≡ []
  pub notes_are : AreNotes (now.committed 1) notes

-- What a crash within a making may leave: these notes and no change, in tables that had no row
-- (this project's choice).
pub record LeavesNotes (was : View) (notes : List Entry) (db : Trees) : Type 0 where
  pub clean : IsClean was
  pub was_open : IsTrue was.is_open
  pub none_before : (was.committed 0 ≡ []) × (was.committed 1 ≡ [])
  pub holds : Holds (stored_form was) db [] notes

-- A call that makes a store forgets nothing, and a crash leaves the notes alone,
-- or what it left before (this project's choice).
pub record LeavesEither {S : Type 0} (view : S → View) (faults : S → ℕ)
    (recovers : S → Trees → Type 0) (notes : List Entry) (old new : S) : Type 0 where
  pub crash : (db : Trees) → recovers new db → LeavesNotes (view old) notes db ⊎ recovers old db
  pub on : ForgetsNothing view faults old new

-- A transaction has written nothing, and the two tables have no row (this project's choice).
pub record IsBlank (v : View) : Type 0 where
  pub unmade : IsUnmade v
  pub sound : v.is_broken ≡ false
  pub same : v.trees ≡ v.committed

-- A store that is rolled back, and then only read, has what it had (this project's choice).
pub record HasRolledBack (old new : View) : Type 0 where
  pub was_open : IsTrue new.is_open → IsTrue old.is_open
  pub committed : IsTrue new.is_open → new.committed ≡ old.committed
  pub tables : HasTables old → HasTables new
  pub form : stored_form new ≡ stored_form old

-- A store that is rolled back is found without a row, or with one (this project's choice).
abbrev pub TellsUnmade : View → View → Bool → Type 0
TellsUnmade old new true = HasRolledBack old new × IsBlank new
TellsUnmade old new false = HasRolledBack old new × (IsUnmade old → ⊥)
