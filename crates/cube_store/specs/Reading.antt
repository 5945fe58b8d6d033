-- Rows read one after another.
use Rattle.std.specs.Prelude.{◌≡◌, ℕ, Bool, true, false, List, [], ◌∷◌, ◌++◌, length}
use Rattle.std.specs.Bool.{MatchBool}
use Rattle.std.specs.List.{AllByRecursion}
use Rattle.sqlite_value.specs.Order.{Row}
use Rattle.sqlite_trees.specs.View.{View}
use Rattle.cube_store.specs.Rows.{Entry, change_rows, change_row, next_digest, last_digest}
use Rattle.cube_store.specs.Rows.{entries_in, IsOfSource}
use Rattle.cube_store.specs.Rows.{IsRowOf, AreChanges, AreNotes}
use Rattle.cube_store.specs.State.{OnlyReads, rows_left, LeadsTo, form_in}
use Rattle.sqlite_trees.specs.declared.error.StoreError.TheVariants.{OutOfMemory}
use Rattle.cube_store.specs.declared.fault.OpenFault.{OpenFault}
use Rattle.cube_store.specs.declared.fault.OpenFault.TheVariants as kind
use Rattle.cube_store.specs.declared.form.RowForm.{RowForm}
use Rattle.cube_store.specs.declared.form.RowForm.TheVariants.{Plain, Chained}

-- A cursor stands before the first row of a table (this project's choice).
pub record StandsBeforeFirst (old new : View) (tree : ℕ) : Type 0 where
  pub reads : OnlyReads old new
  pub left : rows_left new 0 ≡ old.trees tree

-- A cursor has passed this row, or had none left (this project's choice).
abbrev pub Passes : View → View → Row → Bool → Type 0
Passes old new row true = OnlyReads old new × (rows_left old 0 ≡ row ∷ rows_left new 0)
Passes old new row false = OnlyReads old new × (rows_left old 0 ≡ [])

-- How many values the row of a change has (this project's choice).
abbrev pub value_count : RowForm → ℕ
value_count Plain = 4
value_count Chained = 5

-- A row is that of a change with this number, ends in this digest, which chains it to a row with
-- that one, and was taken (this project's choice).
pub record HasTaken {K : Type 0} (takes : K → Entry → K → Type 0) (form : RowForm) (before : List ℕ)
    (number : ℕ) (row : Row) (start end : K) (digest : List ℕ) : Type 0 where
  pub change : Entry
  pub source : IsOfSource change
  pub digest_is : digest ≡ next_digest form before number change
  pub row_is : row ≡ change_row form digest number change
  pub taken : takes start change end

-- Why a row with this number, behind one with that digest, isn't taken: it is no such change, its
-- digest is another, or memory runs out (this project's choice).
abbrev pub IsntTaken : RowForm → List ℕ → ℕ → Row → OpenFault → Type 0
IsntTaken form before number row (kind.Store error) = error ≡ OutOfMemory
IsntTaken form before number row (kind.Row at) =
    (at ≡ number) × ((change : Entry) → IsOfSource change → IsRowOf form number change row → ⊥)
IsntTaken form before number row (kind.Digest at) = (at ≡ number)
    × ((change : Entry) × IsOfSource change × IsRowOf form number change row
    × (row ≡ change_row form (next_digest form before number change) number change → ⊥))
IsntTaken form before number row other = ⊥

-- Of these rows so many changes are passed and taken, and the others are left, of which the first
-- is to be chained to this digest (this project's choice).
pub record HasPassed {K : Type 0} (takes : K → Entry → K → Type 0) (form : RowForm)
    (rows left : List Row) (at : ℕ) (digest : List ℕ) (start end : K) : Type 0 where
  pub passed : List Entry
  pub rows_are : rows ≡ change_rows form passed ++ left
  pub digest_is : digest ≡ last_digest form passed
  pub sources : AllByRecursion IsOfSource passed
  pub count_is : length passed ≡ at
  pub taken : LeadsTo takes start passed end

-- A reading tells whether something holds of the tables (this project's choice).
pub record TellsWhether (old new : View) (P : Type 0) (found : Bool) : Type 0 where
  pub told : MatchBool found P (P → ⊥)
  pub reads : OnlyReads old new
  pub sound : old.is_broken ≡ false

-- The table of notes has these, as a reading of it has found (this project's choice).
pub record HasCompared (old new : View) (notes : List Entry) : Type 0 where
  pub same : AreNotes (old.trees 1) notes
  pub reads : OnlyReads old new
  pub sound : old.is_broken ≡ false

-- The table of changes has so many, and all were taken, and the next is to be chained to this
-- digest (this project's choice).
pub record HasReplayed {K : Type 0} (takes : K → Entry → K → Type 0) (old new : View) (count : ℕ)
    (digest : List ℕ) (start end : K) : Type 0 where
  pub changes : AreChanges (form_in old) (old.trees 0) count
  pub digest_is : digest ≡ last_digest (form_in old) (entries_in (old.trees 0))
  pub taken : LeadsTo takes start (entries_in (old.trees 0)) end
  pub reads : OnlyReads old new
  pub sound : old.is_broken ≡ false
