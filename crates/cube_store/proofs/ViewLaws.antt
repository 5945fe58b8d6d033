-- What a call of the store leaves of a journal.
use Rattle.std.proofs.Common.{◌≡◌, ◌⊎◌, inl, inr, ℕ, ◌+◌, ◌<◌, ◌≤◌, ◌^◌, Bool, true, false, List, length, IsTrue, refl}
use Rattle.std.proofs.Common.{sym, ap, subst, ◌∙◌, arith, true≢false}
use Rattle.sqlite_disk.specs.Disk.{MoreFaults}
use Rattle.sqlite_value.specs.Order.{Row}
use Rattle.sqlite_trees.specs.declared.error.StoreError.{StoreError}
use Rattle.sqlite_trees.specs.declared.error.StoreError.TheVariants.{OutOfMemory, Io, Corrupt, Full, Broken, Unstorable}
use Rattle.sqlite_trees.specs.declared.store.Shape.{Shape}
use Rattle.sqlite_trees.specs.Tree.{Trees, put_row}
use Rattle.sqlite_trees.specs.View.{View, doubt, IsClean, KeepsCommitted, SetsTree, IsRolledBack, HasCause}
use Rattle.sqlite_trees.specs.View.{Commits as StoreCommits}
use Rattle.sqlite_trees.proofs.Doubt.{no_doubt}
use Rattle.cube_store.specs.Rows.{Entry, entries_in, IsOfSource, AreChanges, AreNotes, next_digest, change_row}
use Rattle.cube_store.specs.Rows.{last_digest}
use Rattle.cube_store.specs.declared.form.RowForm.{RowForm}
use Rattle.cube_store.specs.State.{held_in, stored_in, noted_in, form_by, form_in, stored_form, Holds, HasTables}
use Rattle.cube_store.specs.State.{IsStanding, IsJournal, IsStore}
use Rattle.cube_store.specs.State.{Appends, Undoes, Commits, IsCause}
use Rattle.cube_store.proofs.ChainLaws.{put_change, put_entries, put_digest, entries_count}

-- ---- what a store is that isn't broken

pub open_if_sound : (v : View) → (v.is_open ≡ false → IsTrue v.is_broken) → v.is_broken ≡ false → IsTrue v.is_open
open_if_sound v law sound = elim v.is_open as (λ b. (b ≡ false → v.is_broken ≡ true) → b ≡ true) [
  | true ↦ λ _. refl
  | false ↦ λ h. absurd (true≢false (sym (h refl) ∙ sound))
] law

pub clean_if_open : (v : View) → (v.is_clean ≡ false → v.is_open ≡ false) → IsTrue v.is_open → IsClean v
clean_if_open v law is_open = clean v.is_clean law
  where
    clean : (b : Bool) → (b ≡ false → v.is_open ≡ false) → doubt b ≡ 0
    clean true h = no_doubt true refl
    clean false h = absurd (true≢false (sym is_open ∙ h refl))

pub tables_kept : (old new : View) → new.shape ≡ old.shape → new.committed_shape ≡ old.committed_shape
    → new.reals ≡ old.reals → new.committed_reals ≡ old.committed_reals → HasTables old → HasTables new
tables_kept old new shape committed_shape reals committed_reals was = record {
  changes = ap (λ (s : ℕ → Shape). s 0) shape ∙ was.changes;
  feeds = ap (λ (s : ℕ → Shape). s 1) shape ∙ was.feeds;
  unaltered = committed_shape ∙ was.unaltered ∙ sym shape;
  same_form = committed_reals ∙ was.same_form ∙ sym reals;
}

-- a store with the same columns has a table of the same form
pub same_form_by : (old new : View) → new.reals ≡ old.reals → form_in new ≡ form_in old
same_form_by old new reals = ap (λ (r : ℕ → ℕ). form_by (r 0)) reals

-- the last commit has the same
pub stored_as : (v : View) → HasTables v → stored_form v ≡ form_in v
stored_as v tables = ap (λ (r : ℕ → ℕ). form_by (r 0)) tables.same_form

pub kept_itself : (v : View) → KeepsCommitted v v
kept_itself v = record {
  shape = refl;
  reals = refl;
  committed_shape = refl;
  committed_reals = refl;
  numbered = refl;
  was_open = λ h. h;
  committed = λ _. refl;
  marks = λ _. refl;
}

notes_moved : (was now : List Row) → now ≡ was → AreNotes was (entries_in was) → AreNotes now (entries_in now)
notes_moved was now same are = subst (λ rows. AreNotes rows (entries_in rows)) (sym same) are

-- ---- a change more

module _ (old new : View) (count committed : ℕ) (digest last : List ℕ) (change : Entry)
    (was : IsJournal old count committed digest last)
    (source : IsOfSource change) (few : count < 2 ^ 62)
    (back : IsClean new → IsClean old)
    (sets : IsClean new → SetsTree old new 0
    (put_row (change_row (form_in old) (next_digest (form_in old) digest (count + 1) change) (count + 1) change)))
    (shut : new.is_clean ≡ false → new.is_open ≡ false) where
  abbrev next : List ℕ
  next = next_digest (form_in old) digest (count + 1) change

  rows_are : (h : IsClean new)
      → new.trees 0 ≡ put_row (change_row (form_in old) next (count + 1) change) (old.trees 0)
  rows_are h = ap (λ (v : View). v.trees 0) (sets h).is

  same_form : (h : IsClean new) → form_in new ≡ form_in old
  same_form h = same_form_by old new (ap (λ (v : View). v.reals) (sets h).is)

  old_open : IsClean new → IsTrue new.is_open → IsTrue old.is_open
  old_open h is_open = sym (ap (λ (v : View). v.is_open) (sets h).is) ∙ is_open

  stands : IsClean new → IsTrue new.is_open
      → IsStanding new (count + 1) committed (next_digest (form_in old) digest (count + 1) change) last
  stands h is_open =
      let before = was.standing (old_open h is_open) in
      let held = put_change (form_in old) (old.trees 0) count digest change before.held before.digest_is source in
      let chained = put_digest (form_in old) (old.trees 0) count digest change before.held before.digest_is in
      record {
        sound = ap (λ (v : View). v.is_broken) (sets h).is ∙ (sets h).sound;
        held = subst (λ form. AreChanges form (new.trees 0) (count + 1)) (sym (same_form h))
            (subst (λ rows. AreChanges (form_in old) rows (count + 1)) (sym (rows_are h)) held);
        stored = subst (λ form. AreChanges form (new.committed 0) committed) (sym (same_form h))
            (subst (λ rows. AreChanges (form_in old) rows committed)
            (sym (ap (λ (v : View). v.committed 0) (sets h).is)) before.stored);
        digest_is = chained ∙ ap (λ rows. last_digest (form_in old) (entries_in rows)) (sym (rows_are h))
            ∙ ap (λ form. last_digest form (held_in new)) (sym (same_form h));
        last_is = before.last_is
            ∙ ap (λ rows. last_digest (form_in old) (entries_in rows)) (sym (ap (λ (v : View). v.committed 0) (sets h).is))
            ∙ ap (λ form. last_digest form (stored_in new)) (sym (same_form h));
        same_notes = ap (λ (v : View). v.trees 1) (sets h).is ∙ before.same_notes
            ∙ sym (ap (λ (v : View). v.committed 1) (sets h).is);
        notes =
            notes_moved (old.committed 1) (new.committed 1) (ap (λ (v : View). v.committed 1) (sets h).is) before.notes;
      }

  pub append_keeps : IsJournal new (count + 1) committed (next_digest (form_in old) digest (count + 1) change) last
  append_keeps = record {
    tables = λ h. tables_kept old new (ap (λ (v : View). v.shape) (sets h).is)
        (ap (λ (v : View). v.committed_shape) (sets h).is) (ap (λ (v : View). v.reals) (sets h).is)
        (ap (λ (v : View). v.committed_reals) (sets h).is) (was.tables (back h));
    few = omega arith;
    within = omega (arith, was.within);
    standing = λ is_open. stands (clean_if_open new shut is_open) is_open;
  }

  pub append_adds : (new.is_open ≡ false → IsTrue new.is_broken) → IsClean new → Appends old new change
  append_adds law h =
      let is_open : IsTrue new.is_open =
      open_if_sound new law (ap (λ (v : View). v.is_broken) (sets h).is ∙ (sets h).sound) in
      let before = was.standing (old_open h is_open) in
      record {
        is_open = is_open;
        held = ap entries_in (rows_are h)
            ∙ put_entries (form_in old) (old.trees 0) count digest change before.held before.digest_is;
        stored = ap (λ (v : View). stored_in v) (sets h).is;
        noted = ap (λ (v : View). noted_in v) (sets h).is;
        form = same_form h;
      }

-- ---- a rollback, after a call that kept what is committed

module _ (old mid new : View) (count committed : ℕ) (digest last : List ℕ)
    (was : IsJournal old count committed digest last)
    (to_mid : IsClean new → IsClean mid) (to_old : IsClean new → IsClean old)
    (kept : IsClean mid → KeepsCommitted old mid) (undone : IsRolledBack mid new)
    (shut : new.is_clean ≡ false → new.is_open ≡ false) where
  mid_open : IsClean new → IsTrue new.is_open → IsTrue mid.is_open
  mid_open h is_open = (undone.kept h).was_open is_open

  opened : IsClean new → IsTrue new.is_open → IsTrue old.is_open
  opened h is_open = (kept (to_mid h)).was_open (mid_open h is_open)

  mid_last : IsClean new → IsTrue new.is_open → mid.committed ≡ old.committed
  mid_last h is_open = (kept (to_mid h)).committed (mid_open h is_open)

  last_commit : IsClean new → IsTrue new.is_open → new.committed ≡ old.committed
  last_commit h is_open = (undone.kept h).committed is_open ∙ mid_last h is_open

  held_now : IsClean new → IsTrue new.is_open → new.trees ≡ old.committed
  held_now h is_open = (undone.undone is_open).0 ∙ mid_last h is_open

  before_tables : IsClean new → HasTables mid
  before_tables h =
      let keeps = kept (to_mid h) in
      tables_kept old mid keeps.shape keeps.committed_shape keeps.reals keeps.committed_reals (was.tables (to_old h))

  undone_reals : IsClean new → new.reals ≡ mid.reals
  undone_reals h = undone.reals (sym (before_tables h).same_form)

  undone_form : IsClean new → form_in new ≡ form_in old
  undone_form h =
      same_form_by mid new (undone_reals h) ∙ same_form_by old mid (kept (to_mid h)).reals

  undone_tables : IsClean new → HasTables new
  undone_tables h =
      let before = before_tables h in
      let shape = undone.shape (sym before.unaltered) in
      record {
        changes = ap (λ (s : ℕ → Shape). s 0) shape ∙ before.changes;
        feeds = ap (λ (s : ℕ → Shape). s 1) shape ∙ before.feeds;
        unaltered = undone.committed_shape ∙ before.unaltered ∙ sym shape;
        same_form = undone.committed_reals ∙ before.same_form ∙ sym (undone_reals h);
      }

  undone_stands : IsClean new → IsTrue new.is_open → IsStanding new committed committed last last
  undone_stands h is_open =
      let before = was.standing (opened h is_open) in
      let trees = held_now h is_open in
      let stored = last_commit h is_open in
      let form = undone_form h in
      record {
        sound = (undone.undone is_open).1;
        held = subst (λ f. AreChanges f (new.trees 0) committed) (sym form)
            (subst (λ (t : Trees). AreChanges (form_in old) (t 0) committed) (sym trees) before.stored);
        stored = subst (λ f. AreChanges f (new.committed 0) committed) (sym form)
            (subst (λ (t : Trees). AreChanges (form_in old) (t 0) committed) (sym stored) before.stored);
        digest_is = before.last_is ∙ ap (λ (t : Trees). last_digest (form_in old) (entries_in (t 0))) (sym trees)
            ∙ ap (λ f. last_digest f (held_in new)) (sym form);
        last_is = before.last_is ∙ ap (λ (t : Trees). last_digest (form_in old) (entries_in (t 0))) (sym stored)
            ∙ ap (λ f. last_digest f (stored_in new)) (sym form);
        same_notes = ap (λ (t : Trees). t 1) (trees ∙ sym stored);
        notes = notes_moved (old.committed 1) (new.committed 1) (ap (λ (t : Trees). t 1) stored) before.notes;
      }

  pub undo_keeps : IsJournal new committed committed last last
  undo_keeps = record {
    tables = undone_tables;
    few = omega (arith, was.few, was.within);
    within = omega arith;
    standing = λ is_open. undone_stands (clean_if_open new shut is_open) is_open;
  }

  pub undo_undoes : IsClean new → Undoes old new
  undo_undoes h = record {
    was_open = opened h;
    held = λ is_open. ap (λ (t : Trees). entries_in (t 0)) (held_now h is_open);
    stored = λ is_open. ap (λ (t : Trees). entries_in (t 0)) (last_commit h is_open);
    noted = λ is_open. ap (λ (t : Trees). entries_in (t 1)) (last_commit h is_open);
  }

-- ---- a commit

module _ (old new : View) (count committed : ℕ) (digest last : List ℕ)
    (was : IsJournal old count committed digest last) (back : IsClean new → IsClean old)
    (commits : IsClean new → StoreCommits old new)
    (shut : new.is_clean ≡ false → new.is_open ≡ false) where
  was_open : IsClean new → IsTrue new.is_open → IsTrue old.is_open
  was_open h is_open = sym (ap (λ (v : View). v.is_open) (commits h).is) ∙ is_open

  same_now : (h : IsClean new) → form_in new ≡ form_in old
  same_now h = same_form_by old new (ap (λ (v : View). v.reals) (commits h).is)

  committed_stands : IsClean new → IsTrue new.is_open → IsStanding new count count digest digest
  committed_stands h is_open =
      let before = was.standing (was_open h is_open) in
      let form = same_now h in
      let noted : new.committed 1 ≡ old.committed 1 =
      ap (λ (v : View). v.committed 1) (commits h).is ∙ before.same_notes in
      record {
        sound = ap (λ (v : View). v.is_broken) (commits h).is ∙ (commits h).sound;
        held = subst (λ f. AreChanges f (new.trees 0) count) (sym form)
            (subst (λ rows. AreChanges (form_in old) rows count) (sym (ap (λ (v : View). v.trees 0) (commits h).is))
            before.held);
        stored = subst (λ f. AreChanges f (new.committed 0) count) (sym form)
            (subst (λ rows. AreChanges (form_in old) rows count) (sym (ap (λ (v : View). v.committed 0) (commits h).is))
            before.held);
        digest_is = before.digest_is
            ∙ ap (λ rows. last_digest (form_in old) (entries_in rows)) (sym (ap (λ (v : View). v.trees 0) (commits h).is))
            ∙ ap (λ f. last_digest f (held_in new)) (sym form);
        last_is = before.digest_is
            ∙ ap (λ rows. last_digest (form_in old) (entries_in rows)) (sym (ap (λ (v : View). v.committed 0) (commits h).is))
            ∙ ap (λ f. last_digest f (stored_in new)) (sym form);
        same_notes =
            ap (λ (v : View). v.trees 1) (commits h).is ∙ sym (ap (λ (v : View). v.committed 1) (commits h).is);
        notes = notes_moved (old.committed 1) (new.committed 1) noted before.notes;
      }

  pub commit_keeps : IsJournal new count count digest digest
  commit_keeps = record {
    tables = λ h. let before = was.tables (back h) in record {
      changes = ap (λ (v : View). v.shape 0) (commits h).is ∙ before.changes;
      feeds = ap (λ (v : View). v.shape 1) (commits h).is ∙ before.feeds;
      unaltered = ap (λ (v : View). v.committed_shape) (commits h).is ∙ sym (ap (λ (v : View). v.shape) (commits h).is);
      same_form = ap (λ (v : View). v.committed_reals) (commits h).is ∙ sym (ap (λ (v : View). v.reals) (commits h).is);
    };
    few = was.few;
    within = omega arith;
    standing = λ is_open. committed_stands (clean_if_open new shut is_open) is_open;
  }

  pub commit_commits : (new.is_open ≡ false → IsTrue new.is_broken) → IsClean new → Commits old new
  commit_commits law h =
      let is_open : IsTrue new.is_open =
      open_if_sound new law (ap (λ (v : View). v.is_broken) (commits h).is ∙ (commits h).sound) in
      record {
        is_open = is_open;
        held = ap (λ (v : View). held_in v) (commits h).is;
        stored = ap (λ (v : View). stored_in v) (commits h).is;
        noted =
            ap (λ (v : View). noted_in v) (commits h).is ∙ ap entries_in (was.standing (was_open h is_open)).same_notes;
        form = same_now h;
      }

-- ---- crashes

few_entries : (form : RowForm) (rows : List Row) (count : ℕ) → AreChanges form rows count → count ≤ 2 ^ 62
    → length (entries_in rows) ≤ 2 ^ 62
few_entries form rows count are few = omega (arith, entries_count form rows count are)

-- what the transaction sees, in rows
held_rows : (v : View) (count committed : ℕ) (digest last : List ℕ) → count ≤ 2 ^ 62
    → IsStanding v count committed digest last → (db : Trees)
    → db ≡ v.trees → Holds (form_in v) db (held_in v) (noted_in v)
held_rows v count committed digest last few standing db is = record {
  changes_are = ap (λ (t : Trees). t 0) is ∙ standing.held.rows_are;
  sources = standing.held.sources;
  few = few_entries (form_in v) (v.trees 0) count standing.held few;
  notes_are = ap (λ (t : Trees). t 1) is ∙ standing.same_notes ∙ standing.notes;
}

-- while the store is open, a crash leaves what is stored
pub settled_rows : (v : View) (count committed : ℕ) (digest last : List ℕ) (recovers : Trees → Type 0)
    → IsJournal v count committed digest last
    → ((db : Trees) → IsTrue v.is_open → recovers db → db ≡ v.committed) → IsTrue v.is_open → (db : Trees) → recovers db
    → Holds (form_in v) db (stored_in v) (noted_in v)
settled_rows v count committed digest last recovers was law is_open db found =
    let standing = was.standing is_open in
    let few : committed ≤ 2 ^ 62 = omega (arith, was.few, was.within) in
    record {
      changes_are = ap (λ (t : Trees). t 0) (law db is_open found) ∙ standing.stored.rows_are;
      sources = standing.stored.sources;
      few = few_entries (form_in v) (v.committed 0) committed standing.stored few;
      notes_are = ap (λ (t : Trees). t 1) (law db is_open found) ∙ standing.notes;
    }

-- a crash within a commit leaves what the transaction saw, or what it left before
pub commit_leaves : (v : View) (count committed : ℕ) (digest last : List ℕ) (before : Trees → Type 0) (db : Trees)
    → IsJournal v count committed digest last → (v.is_open ≡ false → IsTrue v.is_broken) → (v.is_clean ≡ false → v.is_open ≡ false)
    → ((v.is_broken ≡ false) × (db ≡ v.trees)) ⊎ before db
    → (IsClean v × Holds (form_in v) db (held_in v) (noted_in v)) ⊎ before db
commit_leaves v count committed digest last before db was broken shut (inr old) = inr old
commit_leaves v count committed digest last before db was broken shut (inl now) =
    let is_open = open_if_sound v broken now.0 in
    inl (clean_if_open v shut is_open, held_rows v count committed digest last was.few (was.standing is_open) db now.1)

-- once a commit has ended well, a crash leaves what the transaction saw
pub commit_lasts : (old new : View) (count committed : ℕ) (digest last : List ℕ)
    → IsJournal old count committed digest last → (IsClean new → IsClean old)
    → (IsClean new → StoreCommits old new) → (new.is_clean ≡ false → new.is_open ≡ false)
    → (new.is_open ≡ false → IsTrue new.is_broken) → (recovers : Trees → Type 0)
    → ((db : Trees) → IsTrue new.is_open → recovers db → db ≡ new.committed)
    → IsClean new → (db : Trees) → recovers db → Holds (form_in old) db (held_in old) (noted_in old)
commit_lasts old new count committed digest last was back commits shut broken recovers law h db found =
    let done = commit_commits old new count committed digest last was back commits shut broken h in
    let rows = settled_rows new count count digest digest recovers
    (commit_keeps old new count committed digest last was back commits shut) law done.is_open db found in
    subst (λ form. Holds form db (held_in old) (noted_in old)) done.form
    (subst (λ es. Holds (form_in new) db es (noted_in old)) done.stored
    (subst (λ ns. Holds (form_in new) db (stored_in new) ns) done.noted rows))

-- an open journal is a store that can be opened again
pub is_store : (v : View) (count committed : ℕ) (digest last : List ℕ) → IsJournal v count committed digest last → (v.is_clean ≡ false → v.is_open ≡ false)
    → IsTrue v.is_open → IsStore v (noted_in v)
is_store v count committed digest last was shut is_open =
    let standing = was.standing is_open in
    let few : committed ≤ 2 ^ 62 = omega (arith, was.few, was.within) in
    let tables = was.tables (clean_if_open v shut is_open) in
    record {
      is_open = is_open;
      tables = tables;
      holds = subst (λ form. Holds form v.committed (stored_in v) (noted_in v)) (sym (stored_as v tables)) (record {
        changes_are = standing.stored.rows_are;
        sources = standing.stored.sources;
        few = few_entries (form_in v) (v.committed 0) committed standing.stored few;
        notes_are = standing.notes;
      });
    }

-- how many changes the transaction of an open journal has
pub held_count : (v : View) (count committed : ℕ) (digest last : List ℕ) → IsJournal v count committed digest last
    → IsTrue v.is_open → length (held_in v) ≡ count
held_count v count committed digest last was is_open =
    entries_count (form_in v) (v.trees 0) count (was.standing is_open).held

-- ---- causes

shut_if_broken : (v : View) (count committed : ℕ) (digest last : List ℕ) → IsJournal v count committed digest last
    → IsTrue v.is_broken → v.is_open ≡ false
shut_if_broken v count committed digest last was broken = shut v.is_open refl
  where
    shut : (b : Bool) → v.is_open ≡ b → b ≡ false
    shut false is = refl
    shut true is = absurd (true≢false (sym broken ∙ (was.standing is).sound))

-- of a journal's store a call fails with a cause, which later faults don't take away
pub cause_of : (v : View) (count committed : ℕ) (digest last : List ℕ) → IsJournal v count committed digest last
    → (a b c : ℕ) (P Q : Type 0) (e : StoreError) → b ≤ c → (P → Q)
    → HasCause v (MoreFaults a b) P e → IsCause (MoreFaults a c) (v.is_open ≡ false) Q e
cause_of v count committed digest last was a b c P Q OutOfMemory up wider h = tt
cause_of v count committed digest last was a b c P Q Io up wider h = omega arith
cause_of v count committed digest last was a b c P Q Corrupt up wider h = omega arith
cause_of v count committed digest last was a b c P Q Full up wider h = omega arith
cause_of v count committed digest last was a b c P Q Broken up wider h = shut_if_broken v count committed digest last was h
cause_of v count committed digest last was a b c P Q Unstorable up wider h = wider h
