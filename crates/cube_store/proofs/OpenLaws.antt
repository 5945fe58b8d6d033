-- What the opening of a store finds, and why it is refused.
use Rattle.std.proofs.Common.{◌≡◌, ◌⊎◌, inl, inr, ℕ, ◌<◌, ◌≤◌, ◌^◌, Bool, true, false, List, length, IsTrue, refl, sym}
use Rattle.std.proofs.Common.{ap, subst, ◌∙◌, if◌then◌else◌, arith, true≢false}
use Rattle.sqlite_disk.specs.Disk.{MoreFaults}
use Rattle.sqlite_trees.specs.declared.store.Shape.{Shape}
use Rattle.sqlite_trees.specs.declared.store.Shape.TheVariants.{Table}
use Rattle.sqlite_trees.specs.declared.error.StoreError.{StoreError}
use Rattle.sqlite_trees.specs.declared.error.StoreError.TheVariants.{OutOfMemory, Io, Corrupt, Full, Broken, Unstorable}
use Rattle.sqlite_trees.specs.Tree.{Trees}
use Rattle.sqlite_trees.specs.View.{View, IsClean, IsRolledBack}
use Rattle.cube_store.specs.declared.fault.OpenFault.{OpenFault}
use Rattle.cube_store.specs.declared.fault.OpenFault.TheVariants as kind
use Rattle.cube_store.specs.declared.form.RowForm.{RowForm}
use Rattle.cube_store.specs.Rows.{Entry, rows_from, entries_in, no_digest, last_digest, AreChanges, AreNotes, DifferAt}
use Rattle.cube_store.specs.Rows.{IsForeignAt, IsUnchainedAt}
use Rattle.cube_store.specs.State.{held_in, stored_in, noted_in, form_by, form_in, stored_form, Holds, HasTables}
use Rattle.cube_store.specs.State.{IsJournal, IsStore, OnlyReads, Finds, IsCause, ExplainsUnopened, IsFailedCall}
use Rattle.cube_store.specs.Reading.{HasReplayed}
use Rattle.cube_store.proofs.RowLaws.{entries_of_rows, none_differ}
use Rattle.cube_store.proofs.ChainLaws.{chain_length, changes_from, none_foreign, none_unchained}
use Rattle.cube_store.proofs.ReadingLaws.{cause_then}
use Rattle.cube_store.proofs.ViewLaws.{open_if_sound, clean_if_open}

-- the same reasons, seen from an earlier moment
pub explains_then : (fault more shut before is_open was_open tables were : Type 0) (form first : RowForm)
    (trees others : Trees) (notes : List Entry) (e : OpenFault)
    → (fault → more) → (shut → before) → (is_open → was_open) → (were → tables) → (is_open → trees ≡ others)
    → (is_open → form ≡ first)
    → ExplainsUnopened fault shut is_open tables form trees notes e
    → ExplainsUnopened more before was_open were first others notes e
explains_then fault more shut before is_open was_open tables were form first trees others notes
    (kind.Store error) up back sound have same of_form h = cause_then fault more shut before ⊥ ⊥ error up back (λ x. x) h
explains_then fault more shut before is_open was_open tables were form first trees others notes
    kind.NoTables up back sound have same of_form h = λ t. h (have t)
explains_then fault more shut before is_open was_open tables were form first trees others notes
    (kind.Feed source) up back sound have same of_form h =
    (sound h.0, subst (λ (t : Trees). DifferAt (t 1) (rows_from 0 notes) source) (same h.0) h.1)
explains_then fault more shut before is_open was_open tables were form first trees others notes
    (kind.Row number) up back sound have same of_form h = (
      sound h.0,
      subst (λ f. IsForeignAt f (others 0) number) (of_form h.0)
          (subst (λ (t : Trees). IsForeignAt form (t 0) number) (same h.0) h.1),
    )
explains_then fault more shut before is_open was_open tables were form first trees others notes
    (kind.Digest number) up back sound have same of_form h = (
      sound h.0,
      subst (λ f. IsUnchainedAt f (others 0) number) (of_form h.0)
          (subst (λ (t : Trees). IsUnchainedAt form (t 0) number) (same h.0) h.1),
    )
explains_then fault more shut before is_open was_open tables were form first trees others notes
    kind.TooMany up back sound have same of_form h =
    (sound h.0, subst (λ (t : Trees). 2 ^ 62 < length (t 0)) (same h.0) h.1)

-- a call after others that only read fails for reasons that hold of the whole
pub cause_since : (old before : View) (a b c : ℕ) (e : StoreError) → a ≤ b → OnlyReads old before
    → IsCause (MoreFaults b c) (IsTrue before.is_broken) ⊥ e
    → IsCause (MoreFaults a c) (IsTrue old.is_broken) ⊥ e
cause_since old before a b c e up reads h =
    let wide : MoreFaults b c → MoreFaults a c = λ f. omega arith in
    cause_then (MoreFaults b c) (MoreFaults a c) (IsTrue before.is_broken) (IsTrue old.is_broken) ⊥ ⊥ e wide
    (λ broken. sym (ap (λ (v : View). v.is_broken) reads) ∙ broken) (λ x. x) h

pub failed : (fault shut : Type 0) (error : StoreError) → (shut → fault) → IsCause fault shut ⊥ error
    → (error ≡ OutOfMemory) ⊎ fault
failed fault shut OutOfMemory wide h = inl refl
failed fault shut Io wide h = inr h
failed fault shut Corrupt wide h = inr h
failed fault shut Full wide h = inr h
failed fault shut Broken wide h = inr (wide h)
failed fault shut Unstorable wide h = absurd h

-- a store whose tables are those of changes and of these notes, while it is open, is refused only where a call failed
pub refuses_none : (fault more : Type 0) (was : View) (notes : List Entry) (e : OpenFault) → HasTables was
    → (IsTrue was.is_open → (changes : List Entry) × Holds (stored_form was) was.committed changes notes)
    → (fault → more) → (was.is_open ≡ false → more)
    → ExplainsUnopened fault ((was.is_open ≡ false) ⊎ fault) (IsTrue was.is_open) (HasTables was) (stored_form was) was.committed notes e
    → IsFailedCall more e
refuses_none fault more was notes (kind.Store error) tables holds up shut h = (
  error,
  refl,
  failed more ((was.is_open ≡ false) ⊎ fault) error wide (cause_then fault more
      ((was.is_open ≡ false) ⊎ fault) ((was.is_open ≡ false) ⊎ fault) ⊥ ⊥ error up (λ x. x) (λ x. x) h),
)
  where
    wide : (was.is_open ≡ false) ⊎ fault → more
    wide (inl is_shut) = shut is_shut
    wide (inr f) = up f
refuses_none fault more was notes kind.NoTables tables holds up shut h = absurd (h tables)
refuses_none fault more was notes (kind.Feed source) tables holds up shut h =
    let found = holds h.0 in absurd (none_differ (was.committed 1) (rows_from 0 notes) source found.1.notes_are h.1)
refuses_none fault more was notes (kind.Row number) tables holds up shut h =
    let found = holds h.0 in
    absurd (none_foreign (stored_form was) (was.committed 0) (length found.0) number
    (changes_from (stored_form was) (was.committed 0) found.0 (length found.0) found.1.changes_are found.1.sources refl) h.1)
refuses_none fault more was notes (kind.Digest number) tables holds up shut h =
    let found = holds h.0 in
    absurd (none_unchained (stored_form was) (was.committed 0) (length found.0) number
    (changes_from (stored_form was) (was.committed 0) found.0 (length found.0) found.1.changes_are found.1.sources refl) h.1)
refuses_none fault more was notes kind.TooMany tables holds up shut h =
    let found = holds h.0 in
    let many : 2 ^ 62 < length (was.committed 0) = h.1 in
    absurd (omega (arith, found.1.few, chain_length (stored_form was) no_digest 1 found.0, ap length found.1.changes_are))

-- the same of a store that is open
pub accepts : (fault : Type 0) (was : View) (notes : List Entry) (e : OpenFault) → IsStore was notes
    → ExplainsUnopened fault ((was.is_open ≡ false) ⊎ fault) (IsTrue was.is_open) (HasTables was) (stored_form was) was.committed notes e
    → IsFailedCall fault e
accepts fault was notes e store h =
    refuses_none fault fault was notes e store.tables (λ _. (stored_in was, store.holds)) (λ f. f)
    (λ shut. absurd (true≢false (sym store.is_open ∙ shut))) h

-- ---- a store that is rolled back, and then read

module _ (was mid : View) (undone : IsRolledBack was mid) (broken : mid.is_open ≡ false → IsTrue mid.is_broken) where
  pub mid_is_open : mid.is_broken ≡ false → IsTrue mid.is_open
  mid_is_open sound = open_if_sound mid broken sound

  pub was_open : IsClean mid → mid.is_broken ≡ false → IsTrue was.is_open
  was_open h sound = (undone.kept h).was_open (mid_is_open sound)

  pub same_trees : mid.is_broken ≡ false → mid.trees ≡ was.committed
  same_trees sound = (undone.undone (mid_is_open sound)).0

  pub same_last : IsClean mid → mid.is_broken ≡ false → mid.committed ≡ was.committed
  same_last h sound = (undone.kept h).committed (mid_is_open sound)

  pub same_tables : HasTables was → (mid.shape 0 ≡ Table) × (mid.shape 1 ≡ Table)
  same_tables have =
      let shape = undone.shape (sym have.unaltered) in
      (ap (λ (s : ℕ → Shape). s 0) shape ∙ have.changes, ap (λ (s : ℕ → Shape). s 1) shape ∙ have.feeds)

  pub same_form : IsClean mid → mid.is_broken ≡ false → form_in mid ≡ stored_form was
  same_form h sound =
      ap (λ (r : ℕ → ℕ). form_by (r 0))
      ((undone.kept h).reals ∙ ap (λ b. if b then was.committed_reals else was.reals) (mid_is_open sound))

  -- a transaction is broken after a rollback only in a store that was shut, or that a fault has shut
  pub shut_before : (fault : Type 0) → (IsTrue was.is_open → IsTrue mid.is_open ⊎ fault) → IsTrue mid.is_broken
      → (was.is_open ≡ false) ⊎ fault
  shut_before fault closes is_broken = found was.is_open refl
    where
      shut : IsTrue mid.is_open ⊎ fault → fault
      shut (inl is_open) = absurd (true≢false (sym is_broken ∙ (undone.undone is_open).1))
      shut (inr f) = f

      found : (b : Bool) → was.is_open ≡ b → (was.is_open ≡ false) ⊎ fault
      found false is = inl is
      found true is = inr (shut (closes is))

-- why a store that is rolled back isn't opened, as of before the rollback
pub explains_before : (was mid : View) (a b c : ℕ) (notes : List Entry) (e : OpenFault) → IsRolledBack was mid
    → (mid.is_open ≡ false → IsTrue mid.is_broken) → IsClean mid → a ≤ b → b ≤ c
    → (IsTrue was.is_open → IsTrue mid.is_open ⊎ MoreFaults a b)
    → ExplainsUnopened (MoreFaults b c) (IsTrue mid.is_broken) (mid.is_broken ≡ false)
    ((mid.shape 0 ≡ Table) × (mid.shape 1 ≡ Table)) (form_in mid) mid.trees notes e
    → ExplainsUnopened (MoreFaults a c) ((was.is_open ≡ false) ⊎ MoreFaults a c) (IsTrue was.is_open)
    (HasTables was) (stored_form was) was.committed notes e
explains_before was mid a b c notes e undone broken clean up later closes h =
    let wide : MoreFaults b c → MoreFaults a c = λ f. omega arith in
    explains_then (MoreFaults b c) (MoreFaults a c) (IsTrue mid.is_broken) ((was.is_open ≡ false) ⊎ MoreFaults a c)
    (mid.is_broken ≡ false) (IsTrue was.is_open)
    ((mid.shape 0 ≡ Table) × (mid.shape 1 ≡ Table)) (HasTables was) (form_in mid) (stored_form was)
    mid.trees was.committed notes e wide
    (shut_before was mid undone broken (MoreFaults a c) (λ is_open. still (closes is_open)))
    (was_open was mid undone broken clean) (same_tables was mid undone broken) (same_trees was mid undone broken)
    (same_form was mid undone broken clean) h
  where
    more : MoreFaults a b → MoreFaults a c
    more f = omega arith

    still : IsTrue mid.is_open ⊎ MoreFaults a b → IsTrue mid.is_open ⊎ MoreFaults a c
    still (inl is_open) = inl is_open
    still (inr f) = inr (more f)

pub open_is : {K : Type 0} (was mid now : View) (count : ℕ) (digest : List ℕ) (notes : List Entry)
    (takes : K → Entry → K → Type 0) (start end : K)
    → IsRolledBack was mid → (IsClean now → IsClean mid)
    → (IsClean now → HasReplayed takes mid now count digest start end × AreNotes (mid.trees 1) notes)
    → (mid.is_open ≡ false → IsTrue mid.is_broken) → count ≤ 2 ^ 62 → (mid.shape 0 ≡ Table) × (mid.shape 1 ≡ Table)
    → (mid.is_broken ≡ false → mid.trees ≡ mid.committed
    → (mid.shape ≡ mid.committed_shape) × (mid.reals ≡ mid.committed_reals))
    → (now.is_clean ≡ false → now.is_open ≡ false) → IsJournal now count count digest digest
open_is was mid now count digest notes takes start end undone to_mid read broken few tables law shut =
    record {
      tables = λ h. let found = read h in
          let same = same_trees was mid undone broken found.0.sound
          ∙ sym (same_last was mid undone broken (to_mid h) found.0.sound) in
          record {
            changes = ap (λ (v : View). v.shape 0) found.0.reads ∙ tables.0;
            feeds = ap (λ (v : View). v.shape 1) found.0.reads ∙ tables.1;
            unaltered = ap (λ (v : View). v.committed_shape) found.0.reads ∙ sym (law found.0.sound same).0
                ∙ sym (ap (λ (v : View). v.shape) found.0.reads);
            same_form = ap (λ (v : View). v.committed_reals) found.0.reads ∙ sym (law found.0.sound same).1
                ∙ sym (ap (λ (v : View). v.reals) found.0.reads);
          };
      few = few;
      within = omega arith;
      standing = λ is_open. let h = clean_if_open now shut is_open in
          let found = read h in
          let trees : now.trees ≡ mid.trees = ap (λ (v : View). v.trees) found.0.reads in
          let form : form_in now ≡ form_in mid = ap (λ (v : View). form_in v) found.0.reads in
          let last : now.committed ≡ mid.trees =
          ap (λ (v : View). v.committed) found.0.reads
          ∙ same_last was mid undone broken (to_mid h) found.0.sound
          ∙ sym (same_trees was mid undone broken found.0.sound) in
          let noted : mid.trees 1 ≡ rows_from 0 notes = found.1 in
          let back : entries_in (mid.trees 1) ≡ notes = ap entries_in noted ∙ entries_of_rows 0 notes in
          record {
            sound = ap (λ (v : View). v.is_broken) found.0.reads ∙ found.0.sound;
            held = subst (λ f. AreChanges f (now.trees 0) count) (sym form)
                (subst (λ (t : Trees). AreChanges (form_in mid) (t 0) count) (sym trees) found.0.changes);
            stored = subst (λ f. AreChanges f (now.committed 0) count) (sym form)
                (subst (λ (t : Trees). AreChanges (form_in mid) (t 0) count) (sym last) found.0.changes);
            digest_is = found.0.digest_is ∙ ap (λ (t : Trees). last_digest (form_in mid) (entries_in (t 0))) (sym trees)
                ∙ ap (λ f. last_digest f (held_in now)) (sym form);
            last_is = found.0.digest_is ∙ ap (λ (t : Trees). last_digest (form_in mid) (entries_in (t 0))) (sym last)
                ∙ ap (λ f. last_digest f (stored_in now)) (sym form);
            same_notes = ap (λ (t : Trees). t 1) (trees ∙ sym last);
            notes = subst (λ (t : Trees). AreNotes (t 1) (entries_in (t 1))) (sym last)
                (noted ∙ ap (rows_from 0) (sym back));
          };
    }

module _ (was mid : View) (undone : IsRolledBack was mid) (broken : mid.is_open ≡ false → IsTrue mid.is_broken) where
  pub open_finds : (now : View) → IsClean mid → OnlyReads mid now → mid.is_broken ≡ false → Finds was now
  open_finds now clean reads sound =
      let last = same_last was mid undone broken clean sound in
      record {
        was_open = was_open was mid undone broken clean sound;
        is_open = ap (λ (v : View). v.is_open) reads ∙ mid_is_open was mid undone broken sound;
        stored = ap (λ (v : View). stored_in v) reads ∙ ap (λ (t : Trees). entries_in (t 0)) last;
        held = ap (λ (v : View). held_in v) reads
            ∙ ap (λ (t : Trees). entries_in (t 0)) (same_trees was mid undone broken sound);
        noted = ap (λ (v : View). noted_in v) reads ∙ ap (λ (t : Trees). entries_in (t 1)) last;
        form = ap (λ (v : View). form_in v) reads ∙ same_form was mid undone broken clean sound;
      }

  pub open_noted : (notes : List Entry) → mid.is_broken ≡ false → AreNotes (mid.trees 1) notes → noted_in was ≡ notes
  open_noted notes sound same =
      ap (λ (t : Trees). entries_in (t 1)) (sym (same_trees was mid undone broken sound)) ∙ ap entries_in same
      ∙ entries_of_rows 0 notes
