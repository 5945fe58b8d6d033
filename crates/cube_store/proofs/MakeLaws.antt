-- What the making of a store leaves.
use Rattle.std.proofs.Common.{◌≡◌, ◌⊎◌, inl, inr, ℕ, ◌+◌, ◌<◌, ◌≤◌, ◌^◌, Bool, true, false, not, List, [], ◌∷◌, ◌++◌}
use Rattle.std.proofs.Common.{length, take, get_or, IsTrue, refl, sym, ap, subst, ◌∙◌, arith, true≢false}
use Rattle.std.proofs.lemmas.List.{take_more, length-take-le, length-map, get_or-map}
use Rattle.sqlite_disk.specs.Disk.{MoreFaults}
use Rattle.sqlite_value.specs.Order.{Row}
use Rattle.sqlite_trees.specs.declared.error.StoreError.{StoreError}
use Rattle.sqlite_trees.specs.declared.error.StoreError.TheVariants.{OutOfMemory, Io, Corrupt, Full, Broken, Unstorable}
use Rattle.sqlite_trees.specs.declared.store.Shape.{Shape}
use Rattle.sqlite_trees.specs.declared.store.Shape.TheVariants.{Table}
use Rattle.sqlite_trees.specs.Tree.{Trees, put_row, with_tree}
use Rattle.sqlite_trees.specs.View.{View, IsClean, IsRolledBack, SetsTree, IsQuiet, HasCause, IsStorableRow}
use Rattle.sqlite_trees.specs.View.{Commits as StoreCommits}
use Rattle.cube_store.specs.declared.note.FeedNote.{FeedNote}
use Rattle.cube_store.specs.declared.form.RowForm.{RowForm}
use Rattle.cube_store.specs.Rows.{Entry, row_of, rows_from, entries_in, entry_of, entries_of, AreChanges}
use Rattle.cube_store.specs.Rows.{no_digest, last_digest}
use Rattle.cube_store.specs.State.{rows_left, form_by, form_in, stored_form, IsStanding, IsJournal, OnlyReads}
use Rattle.cube_store.specs.State.{MakesJournal, ForgetsNothing, IsCause}
use Rattle.cube_store.specs.Making.{WritesNotes, IsMade, CantNote, LeavesNotes, LeavesEither, IsBlank, HasRolledBack}
use Rattle.cube_store.specs.Making.{TellsUnmade}
use Rattle.cube_store.specs.Reading.{StandsBeforeFirst, Passes, TellsWhether}
use Rattle.cube_store.proofs.RowLaws.{put_next, entries_of_rows}
use Rattle.cube_store.proofs.ReadingLaws.{cause_then, reads_then}
use Rattle.cube_store.proofs.CompareLaws.{index_is}
use Rattle.cube_store.proofs.ViewLaws.{open_if_sound, clean_if_open}
use Rattle.cube_store.proofs.OpenLaws.{same_trees, same_last, same_tables, shut_before}

-- ---- is a table empty?

-- the first step of a cursor tells whether a table has no row
pub empty_told : (old mid new : View) (tree : ℕ) (row : Row) (found : Bool) → StandsBeforeFirst old mid tree
    → old.is_broken ≡ false → Passes mid new row found → TellsWhether old new (old.trees tree ≡ []) (not found)
empty_told old mid new tree row true begins sound step = record {
  told = λ none. let e : row ∷ rows_left new 0 ≡ [] = sym step.1 ∙ begins.left ∙ none in absurd (cc);
  reads = reads_then old mid new begins.reads step.0;
  sound = sound;
}
empty_told old mid new tree row false begins sound step = record {
  told = sym begins.left ∙ step.1;
  reads = reads_then old mid new begins.reads step.0;
  sound = sound;
}

pub first_told : (old mid : View) → TellsWhether old mid (old.trees 0 ≡ []) false
    → TellsWhether old mid ((old.trees 0 ≡ []) × (old.trees 1 ≡ [])) false
first_told old mid was = record { told = λ both. was.told both.0; reads = was.reads; sound = was.sound }

pub both_told : (old mid new : View) (b : Bool) → TellsWhether old mid (old.trees 0 ≡ []) true
    → TellsWhether mid new (mid.trees 1 ≡ []) b
    → TellsWhether old new ((old.trees 0 ≡ []) × (old.trees 1 ≡ [])) b
both_told old mid new true was now = record {
  told = (was.told, sym (ap (λ (v : View). v.trees 1) was.reads) ∙ now.told);
  reads = reads_then old mid new was.reads now.reads;
  sound = was.sound;
}
both_told old mid new false was now = record {
  told = λ both. now.told (ap (λ (v : View). v.trees 1) was.reads ∙ both.1);
  reads = reads_then old mid new was.reads now.reads;
  sound = was.sound;
}

-- ---- notes put one after another

pub put_cause : (v : View) (fault P : Type 0) (e : StoreError) → HasCause v fault P e
    → IsCause fault (IsTrue v.is_broken) P e
put_cause v fault P OutOfMemory h = tt
put_cause v fault P Io h = h
put_cause v fault P Corrupt h = h
put_cause v fault P Full h = h
put_cause v fault P Broken h = h
put_cause v fault P Unstorable h = h

pub one_note : (notes : List FeedNote) (at : ℕ) (note : FeedNote) (before now : List Row) → at < length notes
    → note ≡ get_or notes at note → before ≡ rows_from 0 (take at (entries_of notes))
    → now ≡ put_row (row_of at (entry_of note)) before → now ≡ rows_from 0 (take (at + 1) (entries_of notes))
one_note notes at note before now within is was put =
    let long : at < length (entries_of notes) = omega (arith, length-map notes entry_of) in
    let up_to : at ≤ length (entries_of notes) = omega arith in
    let here : get_or (entries_of notes) at (entry_of note) ≡ entry_of note =
    get_or-map entry_of notes at note (entry_of note) within ∙ ap entry_of (sym is) in
    let more : take (at + 1) (entries_of notes) ≡ take at (entries_of notes) ++ entry_of note ∷ [] =
    take_more (entries_of notes) at (entry_of note) long ∙ ap (λ x. take at (entries_of notes) ++ x ∷ []) here in
    let place : 0 + length (take at (entries_of notes)) ≡ at =
    omega (arith, length-take-le at (entries_of notes) up_to) in
    put ∙ ap (put_row (row_of at (entry_of note))) was
    ∙ put_next 0 at (take at (entries_of notes)) (entry_of note) place ∙ ap (rows_from 0) (sym more)

-- one note more is written
pub writes_more : (notes : List FeedNote) (at : ℕ) (other : FeedNote) (old before now : View) → at < length notes
    → WritesNotes old before (take at (entries_of notes))
    → SetsTree before now 1 (put_row (row_of at (entry_of (get_or notes at other))))
    → WritesNotes old now (take (at + 1) (entries_of notes))
writes_more notes at other old before now within was sets =
    let trees = with_tree before.trees 1 (put_row (row_of at (entry_of (get_or notes at other))) (before.trees 1)) in
    record {
      others = sets.is
          ∙ ap (λ (v : View). let w : View = record v { trees = trees; cursors = now.cursors } in w) was.others
          ∙ ap (λ (t : Trees). let w : View = record old { trees = t; cursors = now.cursors } in w)
          (sym (ap (λ (v : View). v.trees) sets.is));
      changes = ap (λ (v : View). v.trees 0) sets.is ∙ was.changes;
      notes_are = one_note notes at _ (before.trees 1) (now.trees 1) within (index_is notes at other within)
          was.notes_are (ap (λ (v : View). v.trees 1) sets.is);
    }

pub cant_note : (reals : ℕ) (notes : List FeedNote) (at : ℕ) (note : FeedNote) → at < length notes
    → note ≡ get_or notes at note
    → (IsStorableRow reals (row_of at (entry_of note)) → ⊥) ⊎ (2 ^ 63 ≤ note.length)
    → (reals : ℕ) × CantNote reals notes
cant_note reals notes at note within is why =
    (reals, record { place = at; note = note; within = within; note_is = is; why = why })

-- why a note isn't put after others, as of before the first
pub note_cause : (old before : View) (a b c : ℕ) (notes : List FeedNote) (at : ℕ) (other : FeedNote) (e : StoreError)
    (written : List Entry) → at < length notes → a ≤ b → WritesNotes old before written
    → HasCause before (MoreFaults b c)
    ((IsStorableRow (before.reals 1) (row_of at (entry_of (get_or notes at other))) → ⊥)
    ⊎ (2 ^ 63 ≤ (get_or notes at other).length)) e
    → IsCause (MoreFaults a c) (IsTrue old.is_broken) ((reals : ℕ) × CantNote reals notes) e
note_cause old before a b c notes at other e written within up writes h =
    let why = (IsStorableRow (before.reals 1) (row_of at (entry_of (get_or notes at other))) → ⊥)
    ⊎ (2 ^ 63 ≤ (get_or notes at other).length) in
    let wide : MoreFaults b c → MoreFaults a c = λ f. omega arith in
    cause_then (MoreFaults b c) (MoreFaults a c) (IsTrue before.is_broken) (IsTrue old.is_broken) why
    ((reals : ℕ) × CantNote reals notes) e wide
    (λ broken. sym (ap (λ (v : View). v.is_broken) writes.others) ∙ broken)
    (cant_note (before.reals 1) notes at (get_or notes at other) within (index_is notes at other within))
    (put_cause before (MoreFaults b c) why e h)

-- ---- the notes committed

module _ (old put : View) (notes : List Entry) (blank : IsBlank old) (writes : WritesNotes old put notes) where
  put_changes : put.trees 0 ≡ []
  put_changes = writes.changes ∙ ap (λ (t : Trees). t 0) blank.same ∙ blank.unmade.none.0

  pub leaves_notes : (db : Trees) → IsClean old → db ≡ put.trees → LeavesNotes old notes db
  leaves_notes db clean is = record {
    clean = clean;
    was_open = blank.unmade.is_open;
    none_before = blank.unmade.none;
    holds = record {
      changes_are = ap (λ (t : Trees). t 0) is ∙ put_changes;
      sources = tt;
      few = omega arith;
      notes_are = ap (λ (t : Trees). t 1) is ∙ writes.notes_are;
    };
  }

  pub made_is : (now : View) → StoreCommits put now → IsMade (stored_form old) now notes
  made_is now commits =
      let shape : now.shape ≡ old.shape =
      ap (λ (v : View). v.shape) commits.is ∙ ap (λ (v : View). v.shape) writes.others in
      let last : now.committed ≡ put.trees = ap (λ (v : View). v.committed) commits.is in
      record {
        sound = ap (λ (v : View). v.is_broken) commits.is ∙ commits.sound;
        tables = record {
          changes = ap (λ (s : ℕ → Shape). s 0) shape ∙ blank.unmade.tables.changes;
          feeds = ap (λ (s : ℕ → Shape). s 1) shape ∙ blank.unmade.tables.feeds;
          unaltered = ap (λ (v : View). v.committed_shape) commits.is ∙ sym (ap (λ (v : View). v.shape) commits.is);
          same_form = ap (λ (v : View). v.committed_reals) commits.is ∙ sym (ap (λ (v : View). v.reals) commits.is);
        };
        form_is =
            ap (λ (v : View). form_in v) commits.is ∙ ap (λ (v : View). form_in v) writes.others
            ∙ sym (ap (λ (r : ℕ → ℕ). form_by (r 0)) blank.unmade.tables.same_form);
        same = ap (λ (v : View). v.trees) commits.is ∙ sym last;
        changes = ap (λ (t : Trees). t 0) last ∙ put_changes;
        notes_are = ap (λ (t : Trees). t 1) last ∙ writes.notes_are;
      }

  -- a commit of them fails because memory ran out or by a fault
  pub commit_cause : (a b c : ℕ) (cant : Type 0) (e : StoreError) → a ≤ b → HasCause put (MoreFaults b c) ⊥ e
      → IsCause (MoreFaults a c) ⊥ cant e
  commit_cause a b c cant e up h =
      let wide : MoreFaults b c → MoreFaults a c = λ f. omega arith in
      cause_then (MoreFaults b c) (MoreFaults a c) (IsTrue put.is_broken) ⊥ ⊥ cant e wide
      (λ broken. true≢false (sym broken ∙ ap (λ (v : View). v.is_broken) writes.others ∙ blank.sound))
      (λ x. absurd x) (put_cause put (MoreFaults b c) ⊥ e h)

-- ---- a new journal

module _ (form : RowForm) (now : View) (notes : List Entry) (made : IsMade form now notes) where
  no_changes : (f : RowForm) (rows : List Row) → rows ≡ [] → AreChanges f rows 0
  no_changes f rows none =
      subst (λ r. AreChanges f r 0) (sym none) (record { rows_are = refl; sources = tt; count_is = refl })

  made_stands : IsStanding now 0 0 no_digest no_digest
  made_stands = record {
    sound = made.sound;
    held = no_changes (form_in now) (now.trees 0) (ap (λ (t : Trees). t 0) made.same ∙ made.changes);
    stored = no_changes (form_in now) (now.committed 0) made.changes;
    digest_is = ap (λ rows. last_digest (form_in now) (entries_in rows))
        (sym (ap (λ (t : Trees). t 0) made.same ∙ made.changes));
    last_is = ap (λ rows. last_digest (form_in now) (entries_in rows)) (sym made.changes);
    same_notes = ap (λ (t : Trees). t 1) made.same;
    notes = made.notes_are ∙ ap (rows_from 0) (sym (ap entries_in made.notes_are ∙ entries_of_rows 0 notes));
  }

  pub makes : (was : View) → IsBlank was → form ≡ stored_form was → (now.is_open ≡ false → IsTrue now.is_broken)
      → MakesJournal notes was now
  makes was blank of_form shut = record {
    was_open = blank.unmade.is_open;
    none_before = blank.unmade.none;
    is_open = open_if_sound now shut made.sound;
    stored = ap entries_in made.changes;
    held = ap (λ (t : Trees). entries_in (t 0)) made.same ∙ ap entries_in made.changes;
    noted = ap entries_in made.notes_are ∙ entries_of_rows 0 notes;
    form = made.form_is ∙ of_form;
  }

pub made_journal : (form : RowForm) (now : View) (notes : List Entry) → (IsClean now → IsMade form now notes)
    → (now.is_clean ≡ false → now.is_open ≡ false) → IsJournal now 0 0 no_digest no_digest
made_journal form now notes made shut = record {
  tables = λ h. (made h).tables;
  few = omega arith;
  within = omega arith;
  standing = λ is_open. made_stands form now notes (made (clean_if_open now shut is_open));
}

-- ---- is anything noted?

module _ (was mid : View) (undone : IsRolledBack was mid) (broken : mid.is_open ≡ false → IsTrue mid.is_broken)
    (clean : IsClean mid) where
  settled : (new : View) → OnlyReads mid new → HasRolledBack was new
  settled new reads =
      let same : new.is_open ≡ mid.is_open = ap (λ (v : View). v.is_open) reads in
      let shape : new.shape ≡ mid.shape = ap (λ (v : View). v.shape) reads in
      let before : IsTrue new.is_open → IsTrue mid.is_open = λ is_open. sym same ∙ is_open in
      record {
        was_open = λ is_open. (undone.kept clean).was_open (before is_open);
        committed = λ is_open. ap (λ (v : View). v.committed) reads ∙ (undone.kept clean).committed (before is_open);
        tables = λ have. let shapes = shape ∙ undone.shape (sym have.unaltered) in record {
          changes = ap (λ (s : ℕ → Shape). s 0) shapes ∙ have.changes;
          feeds = ap (λ (s : ℕ → Shape). s 1) shapes ∙ have.feeds;
          unaltered = ap (λ (v : View). v.committed_shape) reads ∙ undone.committed_shape ∙ have.unaltered
              ∙ sym shapes;
          same_form = ap (λ (v : View). v.committed_reals) reads ∙ undone.committed_reals ∙ have.same_form
              ∙ sym (ap (λ (v : View). v.reals) reads ∙ undone.reals (sym have.same_form));
        };
        form = ap (λ (r : ℕ → ℕ). form_by (r 0)) (ap (λ (v : View). v.committed_reals) reads ∙ undone.committed_reals);
      }

  pub no_tables_told : ((mid.shape 0 ≡ Table) × (mid.shape 1 ≡ Table) → ⊥) → TellsUnmade was mid false
  no_tables_told none = (settled mid refl, λ unmade. none (same_tables was mid undone broken unmade.tables))

  pub unmade_told : (new : View) (b : Bool) → (mid.shape 0 ≡ Table) × (mid.shape 1 ≡ Table)
      → (mid.is_broken ≡ false → mid.trees ≡ mid.committed
      → (mid.shape ≡ mid.committed_shape) × (mid.reals ≡ mid.committed_reals))
      → TellsWhether mid new ((mid.trees 0 ≡ []) × (mid.trees 1 ≡ [])) b → TellsUnmade was new b
  unmade_told new true tables law told =
      let trees = same_trees was mid undone broken told.sound in
      let last = same_last was mid undone broken clean told.sound in
      let same : mid.trees ≡ mid.committed = trees ∙ sym last in
      let shape = ap (λ (v : View). v.shape) told.reads in
      let now : new.committed ≡ mid.trees = ap (λ (v : View). v.committed) told.reads ∙ sym same in (
        settled new told.reads,
        record {
          unmade = record {
            is_open = ap (λ (v : View). v.is_open) told.reads ∙ open_if_sound mid broken told.sound;
            tables = record {
              changes = ap (λ (s : ℕ → Shape). s 0) shape ∙ tables.0;
              feeds = ap (λ (s : ℕ → Shape). s 1) shape ∙ tables.1;
              unaltered = ap (λ (v : View). v.committed_shape) told.reads ∙ sym (law told.sound same).0 ∙ sym shape;
              same_form = ap (λ (v : View). v.committed_reals) told.reads ∙ sym (law told.sound same).1
                  ∙ sym (ap (λ (v : View). v.reals) told.reads);
            };
            none = (ap (λ (t : Trees). t 0) now ∙ told.told.0, ap (λ (t : Trees). t 1) now ∙ told.told.1);
          };
          sound = ap (λ (v : View). v.is_broken) told.reads ∙ told.sound;
          same = ap (λ (v : View). v.trees) told.reads ∙ sym now;
        },
      )
  unmade_told new false tables law told =
      let trees = same_trees was mid undone broken told.sound in (
        settled new told.reads,
        λ unmade. told.told (
          ap (λ (t : Trees). t 0) trees ∙ unmade.none.0,
          ap (λ (t : Trees). t 1) trees ∙ unmade.none.1,
        ),
      )

-- why a reading of a store that is rolled back fails, as of before the rollback
pub cause_before : (was mid : View) (a b c : ℕ) (e : StoreError) → IsRolledBack was mid
    → (mid.is_open ≡ false → IsTrue mid.is_broken) → a ≤ b → b ≤ c
    → (IsTrue was.is_open → IsTrue mid.is_open ⊎ MoreFaults a b)
    → IsCause (MoreFaults b c) (IsTrue mid.is_broken) ⊥ e
    → IsCause (MoreFaults a c) ((was.is_open ≡ false) ⊎ MoreFaults a c) ⊥ e
cause_before was mid a b c e undone broken up later closes h =
    let wide : MoreFaults b c → MoreFaults a c = λ f. omega arith in
    cause_then (MoreFaults b c) (MoreFaults a c) (IsTrue mid.is_broken)
    ((was.is_open ≡ false) ⊎ MoreFaults a c) ⊥ ⊥ e wide
    (shut_before was mid undone broken (MoreFaults a c) (λ is_open. still (closes is_open))) (λ x. x) h
  where
    more : MoreFaults a b → MoreFaults a c
    more f = omega arith

    still : IsTrue mid.is_open ⊎ MoreFaults a b → IsTrue mid.is_open ⊎ MoreFaults a c
    still (inl is_open) = inl is_open
    still (inr f) = inr (more f)

-- ---- calls one after another

module _ {S : Type 0} (view : S → View) (faults : S → ℕ) where
  pub goes_quiet : (recovers : S → Trees → Type 0) (shielded : S → Type 0) (a b : S)
      → IsQuiet view faults recovers shielded a b → ForgetsNothing view faults a b
  goes_quiet recovers shielded a b quiet = record { clean = quiet.clean; counts = quiet.counts; stays = quiet.closes }

  pub goes_then : (a b c : S) → ForgetsNothing view faults a b → ForgetsNothing view faults b c
      → ForgetsNothing view faults a c
  goes_then a b c x y = record {
    clean = omega (arith, x.clean, y.clean);
    counts = omega (arith, x.counts, y.counts);
    stays = λ h is_open. let clean_b : IsClean (view b) = omega (arith, y.clean) in after h (x.stays clean_b is_open);
  }
    where
      wide_first : MoreFaults (faults a) (faults b) → MoreFaults (faults a) (faults c)
      wide_first f = omega (arith, y.counts)

      wide_last : MoreFaults (faults b) (faults c) → MoreFaults (faults a) (faults c)
      wide_last f = omega (arith, x.counts)

      last : IsTrue (view c).is_open ⊎ MoreFaults (faults b) (faults c)
          → IsTrue (view c).is_open ⊎ MoreFaults (faults a) (faults c)
      last (inl is_open) = inl is_open
      last (inr f) = inr (wide_last f)

      after : IsClean (view c) → IsTrue (view b).is_open ⊎ MoreFaults (faults a) (faults b)
          → IsTrue (view c).is_open ⊎ MoreFaults (faults a) (faults c)
      after h (inl is_open) = last (y.stays h is_open)
      after h (inr f) = inr (wide_first f)

  -- a crash within a commit leaves the notes, or what it left before
  pub leaves_either : (recovers : S → Trees → Type 0) (notes : List Entry) (a b c : S)
      → ((db : Trees) → recovers c db → LeavesNotes (view a) notes db ⊎ recovers b db)
      → ((db : Trees) → recovers b db → recovers a db) → ForgetsNothing view faults a b → ForgetsNothing view faults b c
      → LeavesEither view faults recovers notes a c
  leaves_either recovers notes a b c crash before x y =
      record { crash = λ db h. earlier db (crash db h); on = goes_then a b c x y }
    where
      earlier : (db : Trees) → LeavesNotes (view a) notes db ⊎ recovers b db
          → LeavesNotes (view a) notes db ⊎ recovers a db
      earlier db (inl left) = inl left
      earlier db (inr was) = inr (before db was)
