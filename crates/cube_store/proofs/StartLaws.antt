-- What a start on a store finds or makes, as of before it was looked at.
use Rattle.std.proofs.Common.{◌≡◌, ◌⊎◌, inl, inr, ℕ, ◌≤◌, List, [], refl, IsTrue, Bool, true, false, sym, ap, subst, ◌∙◌, arith}
use Rattle.std.proofs.Common.{true≢false}
use Rattle.sqlite_disk.specs.Disk.{MoreFaults}
use Rattle.sqlite_trees.specs.declared.error.StoreError.TheVariants.{OutOfMemory, Io, Corrupt, Full, Broken, Unstorable}
use Rattle.sqlite_trees.specs.declared.error.StoreError.{StoreError}
use Rattle.sqlite_trees.specs.Tree.{Trees}
use Rattle.sqlite_trees.specs.View.{View, IsClean, IsQuiet}
use Rattle.cube_store.specs.declared.fault.OpenFault.{OpenFault}
use Rattle.cube_store.specs.declared.fault.OpenFault.TheVariants as kind
use Rattle.cube_store.specs.Rows.{Entry, entries_in}
use Rattle.cube_store.specs.State.{stored_in, noted_in, stored_form, Holds, HasTables, IsStore, IsUnmade, Finds}
use Rattle.cube_store.specs.State.{MakesJournal}
use Rattle.cube_store.specs.State.{IsCause, ExplainsUnopened, FailsToStart, ForgetsNothing, HasNoRow}
use Rattle.cube_store.specs.Making.{LeavesNotes, LeavesEither, HasRolledBack, TellsUnmade, IsBlank}
use Rattle.cube_store.proofs.MakeLaws.{goes_quiet, goes_then}
use Rattle.cube_store.proofs.OpenLaws.{refuses_none, failed, explains_then}

module _ (was mid : View) (settled : HasRolledBack was mid) (notes : List Entry) where
  pub makes_before : (now : View) → MakesJournal notes mid now → MakesJournal notes was now
  makes_before now makes =
      let same = settled.committed makes.was_open in
      record {
        was_open = settled.was_open makes.was_open;
        none_before = subst (λ (t : Trees). (t 0 ≡ []) × (t 1 ≡ [])) same makes.none_before;
        is_open = makes.is_open;
        stored = makes.stored;
        held = makes.held;
        noted = makes.noted;
        form = makes.form ∙ settled.form;
      }

  leaves_before : (db : Trees) → (IsClean mid → IsClean was) → LeavesNotes mid notes db → LeavesNotes was notes db
  leaves_before db back left = record {
    clean = back left.clean;
    was_open = settled.was_open left.was_open;
    none_before = subst (λ (t : Trees). (t 0 ≡ []) × (t 1 ≡ [])) (settled.committed left.was_open) left.none_before;
    holds = subst (λ form. Holds form db [] notes) settled.form left.holds;
  }

  pub finds_before : (now : View) → Finds mid now → Finds was now
  finds_before now finds =
      let same = settled.committed finds.was_open in
      record {
        was_open = settled.was_open finds.was_open;
        is_open = finds.is_open;
        stored = finds.stored ∙ ap (λ (t : Trees). entries_in (t 0)) same;
        held = finds.held ∙ ap (λ (t : Trees). entries_in (t 0)) same;
        noted = finds.noted ∙ ap (λ (t : Trees). entries_in (t 1)) same;
        form = finds.form ∙ settled.form;
      }

  pub noted_before : (now : View) → Finds mid now → noted_in mid ≡ notes → noted_in was ≡ notes
  noted_before now finds noted =
      sym (ap (λ (t : Trees). entries_in (t 1)) (settled.committed finds.was_open)) ∙ noted

  pub no_row_before : IsBlank mid → HasNoRow was
  no_row_before blank =
      let same = settled.committed blank.unmade.is_open in (
        settled.was_open blank.unmade.is_open,
        ap (λ (t : Trees). t 0) (sym same) ∙ blank.unmade.none.0,
        ap (λ (t : Trees). t 1) (sym same) ∙ blank.unmade.none.1,
      )

  -- why a store isn't opened, as of before it was looked at
  pub explains_since : (a b c : ℕ) (e : OpenFault) → a ≤ b → b ≤ c
      → (IsTrue was.is_open → IsTrue mid.is_open ⊎ MoreFaults a b)
      → ExplainsUnopened (MoreFaults b c) ((mid.is_open ≡ false) ⊎ MoreFaults b c) (IsTrue mid.is_open) (HasTables mid)
      (stored_form mid) mid.committed notes e
      → ExplainsUnopened (MoreFaults a c) ((was.is_open ≡ false) ⊎ MoreFaults a c) (IsTrue was.is_open) (HasTables was)
      (stored_form was) was.committed notes e
  explains_since a b c e up later closes h =
      explains_then (MoreFaults b c) (MoreFaults a c) ((mid.is_open ≡ false) ⊎ MoreFaults b c)
      ((was.is_open ≡ false) ⊎ MoreFaults a c) (IsTrue mid.is_open) (IsTrue was.is_open) (HasTables mid) (HasTables was)
      (stored_form mid) (stored_form was) mid.committed was.committed notes e wide back settled.was_open settled.tables
      settled.committed (λ _. settled.form) h
    where
      wide : MoreFaults b c → MoreFaults a c
      wide f = omega arith

      wider : MoreFaults a b → MoreFaults a c
      wider f = omega arith

      shut_by : mid.is_open ≡ false → IsTrue mid.is_open ⊎ MoreFaults a b → MoreFaults a c
      shut_by is (inl is_open) = absurd (true≢false (sym is_open ∙ is))
      shut_by is (inr f) = wider f

      shut : mid.is_open ≡ false → (is_open : Bool) → was.is_open ≡ is_open → (was.is_open ≡ false) ⊎ MoreFaults a c
      shut is false was_shut = inl was_shut
      shut is true was_on = inr (shut_by is (closes was_on))

      back : (mid.is_open ≡ false) ⊎ MoreFaults b c → (was.is_open ≡ false) ⊎ MoreFaults a c
      back (inl is) = shut is was.is_open refl
      back (inr f) = inr (wide f)

-- a making fails because a call does, or because a note can't be stored
pub making_fails : (fault more cant : Type 0) (e : OpenFault) (error : StoreError) → (fault → more) → e ≡ kind.Store error
    → IsCause fault ⊥ cant error → FailsToStart more cant e
making_fails fault more cant e OutOfMemory up is h = inl (OutOfMemory, is, inl refl)
making_fails fault more cant e Io up is h = inl (Io, is, inr (up h))
making_fails fault more cant e Corrupt up is h = inl (Corrupt, is, inr (up h))
making_fails fault more cant e Full up is h = inl (Full, is, inr (up h))
making_fails fault more cant e Broken up is h = absurd h
making_fails fault more cant e Unstorable up is h = inr (is, h)

was_open_if : (v : View) (notes : List Entry) → IsStore v notes ⊎ IsUnmade v → IsTrue v.is_open
was_open_if v notes (inl store) = store.is_open
was_open_if v notes (inr unmade) = unmade.is_open

-- a look at an open store fails only where a call fails
pub look_fails : (was : View) (notes : List Entry) (fault cant : Type 0) (e : StoreError)
    → IsStore was notes ⊎ IsUnmade was
    → IsCause fault ((was.is_open ≡ false) ⊎ fault) ⊥ e
    → FailsToStart fault cant (kind.Store e)
look_fails was notes fault cant e either h =
    inl (e, refl, failed fault ((was.is_open ≡ false) ⊎ fault) e shut h)
  where
    shut : (was.is_open ≡ false) ⊎ fault → fault
    shut (inl is) = absurd (true≢false (sym (was_open_if was notes either) ∙ is))
    shut (inr f) = f

-- a store of changes and of these notes, in which a row was found, is refused only where a call fails
pub opening_fails : (was mid : View) (a b c : ℕ) (notes : List Entry) (cant : Type 0) (e : OpenFault)
    → TellsUnmade was mid false → a ≤ b → b ≤ c → (IsTrue was.is_open → IsTrue mid.is_open ⊎ MoreFaults a b)
    → ExplainsUnopened (MoreFaults b c) ((mid.is_open ≡ false) ⊎ MoreFaults b c) (IsTrue mid.is_open) (HasTables mid)
    (stored_form mid) mid.committed notes e
    → IsStore was notes ⊎ IsUnmade was
    → FailsToStart (MoreFaults a c) cant e
opening_fails was mid a b c notes cant e told up later closes h (inr unmade) = absurd (told.1 unmade)
opening_fails was mid a b c notes cant e told up later closes h (inl store) =
    inl (refuses_none (MoreFaults b c) (MoreFaults a c) mid notes e (told.0.tables store.tables) holds wide shut h)
  where
    wide : MoreFaults b c → MoreFaults a c
    wide f = omega arith

    wider : MoreFaults a b → MoreFaults a c
    wider f = omega arith

    holds : IsTrue mid.is_open → (changes : List Entry) × Holds (stored_form mid) mid.committed changes notes
    holds is_open = (
      stored_in was,
      subst (λ form. Holds form mid.committed (stored_in was) notes) (sym told.0.form)
          (subst (λ (t : Trees). Holds (stored_form was) t (stored_in was) notes)
          (sym (told.0.committed is_open)) store.holds),
    )

    shut_by : mid.is_open ≡ false → IsTrue mid.is_open ⊎ MoreFaults a b → MoreFaults a c
    shut_by is (inl is_open) = absurd (true≢false (sym is_open ∙ is))
    shut_by is (inr f) = wider f

    shut : mid.is_open ≡ false → MoreFaults a c
    shut is = shut_by is (closes store.is_open)

module _ {S : Type 0} (view : S → View) (faults : S → ℕ) (recovers : S → Trees → Type 0) (shielded : S → Type 0)
    (notes : List Entry) (a b c : S) (quiet : IsQuiet view faults recovers shielded a b) where
  -- a making after a look
  pub either_after : (IsClean (view b) → HasRolledBack (view a) (view b)) → LeavesEither view faults recovers notes b c
      → LeavesEither view faults recovers notes a c
  either_after settled left = record {
    crash = λ db h. since db (left.crash db h);
    on = goes_then view faults a b c (goes_quiet view faults recovers shielded a b quiet) left.on;
  }
    where
      back : IsClean (view b) → IsClean (view a)
      back h = omega (arith, quiet.clean)

      since : (db : Trees) → LeavesNotes (view b) notes db ⊎ recovers b db
          → LeavesNotes (view a) notes db ⊎ recovers a db
      since db (inl at) = inl (leaves_before (view a) (view b) (settled at.clean) notes db back at)
      since db (inr h) = inr (quiet.outcomes db h)

-- a reading after a look
pub goes_on : {S : Type 0} (view : S → View) (faults : S → ℕ) (recovers : S → Trees → Type 0) (shielded : S → Type 0)
    (a b c : S) → IsQuiet view faults recovers shielded a b → IsQuiet view faults recovers shielded b c
    → ForgetsNothing view faults a c
goes_on view faults recovers shielded a b c x y =
    goes_then view faults a b c (goes_quiet view faults recovers shielded a b x)
    (goes_quiet view faults recovers shielded b c y)
