-- What a comparison of noted rows with notes has seen.
use Rattle.std.proofs.Common.{◌≡◌, ℕ, false, zero, suc, ◌+◌, ◌<◌, ◌≤◌, List, [], ◌∷◌, ◌++◌, length, take, drop}
use Rattle.std.proofs.Common.{get_or, refl, sym, ap, subst, ◌∙◌, arith, append_assoc}
use Rattle.std.proofs.lemmas.List.{append-nil, take-append-drop, take_more, length-take-le, length-map, get_or-map}
use Rattle.std.proofs.lemmas.List.{get_or_default}
use Rattle.std.proofs.Math.Seq.{take-length}
use Rattle.sqlite_value.specs.Order.{Row}
use Rattle.sqlite_trees.specs.View.{View}
use Rattle.cube_store.specs.declared.note.FeedNote.{FeedNote}
use Rattle.cube_store.specs.Rows.{Entry, row_of, rows_from, entry_of, entries_of, DifferAt}
use Rattle.cube_store.specs.State.{OnlyReads, rows_left}
use Rattle.cube_store.specs.Reading.{Passes, HasCompared}
use Rattle.cube_store.proofs.ReadingLaws.{reads_then}
use Rattle.cube_store.proofs.RowLaws.{rows_length, rows_more, rows_append}

-- the rows so far, the next and the others
next_row : (es : List Entry) (at : ℕ) (e : Entry) → at < length es → e ≡ get_or es at e
    → (rows_from 0 (take (at + 1) es) ≡ rows_from 0 (take at es) ++ row_of at e ∷ [])
    × (rows_from 0 es ≡ rows_from 0 (take at es) ++ row_of at e ∷ rows_from (at + 1) (drop (at + 1) es))
next_row es at e within is =
    let long : at ≤ length es = omega arith in
    let longer : at + 1 ≤ length es = omega arith in
    let place : 0 + length (take at es) ≡ at = omega (arith, length-take-le at es long) in
    let after : 0 + length (take (at + 1) es) ≡ at + 1 = omega (arith, length-take-le (at + 1) es longer) in
    let more : take (at + 1) es ≡ take at es ++ e ∷ [] =
    take_more es at e within ∙ ap (λ x. take at es ++ x ∷ []) (sym is) in
    let one : rows_from 0 (take (at + 1) es) ≡ rows_from 0 (take at es) ++ row_of at e ∷ [] =
    ap (rows_from 0) more ∙ rows_more 0 at (take at es) e place in (
      one,
      ap (rows_from 0) (sym (take-append-drop (at + 1) es)) ∙ rows_append 0 (take (at + 1) es) (drop (at + 1) es)
          ∙ ap (λ k. rows_from 0 (take (at + 1) es) ++ rows_from k (drop (at + 1) es)) after
          ∙ ap (λ rows. rows ++ rows_from (at + 1) (drop (at + 1) es)) one
          ∙ append_assoc (rows_from 0 (take at es)) (row_of at e ∷ []) (rows_from (at + 1) (drop (at + 1) es)),
    )

places : (es : List Entry) (at : ℕ) → at ≤ length es → length (rows_from 0 (take at es)) ≡ at
places es at within = rows_length 0 (take at es) ∙ length-take-le at es within

-- a note within the list
pub some_note : (notes : List FeedNote) (at : ℕ) → at < length notes → (note : FeedNote) × (note ≡ get_or notes at note)
some_note [] at within = absurd (omega arith)
some_note (n ∷ ns) zero within = (n, refl)
some_note (n ∷ ns) (suc at) within = let later : at < length ns = omega arith in some_note ns at later

pub index_is : (notes : List FeedNote) (at : ℕ) (other : FeedNote) → at < length notes
    → get_or notes at other ≡ get_or notes at (get_or notes at other)
index_is notes at other within = get_or_default notes at other (get_or notes at other) within

module _ (rows : List Row) (notes : List FeedNote) where
  note_at : (at : ℕ) (note : FeedNote) → at < length notes → note ≡ get_or notes at note
      → entry_of note ≡ get_or (entries_of notes) at (entry_of note)
  note_at at note within is = ap entry_of is ∙ sym (get_or-map entry_of notes at note (entry_of note) within)

  -- one note more agrees
  pub passed_more : (at : ℕ) (note : FeedNote) (row : Row) (before left : List Row) → at < length notes
      → note ≡ get_or notes at note
      → rows ≡ rows_from 0 (take at (entries_of notes)) ++ before → before ≡ row ∷ left
      → row ≡ row_of at (entry_of note)
      → rows ≡ rows_from 0 (take (at + 1) (entries_of notes)) ++ left
  passed_more at note row before left within is was step same =
      let long : at < length (entries_of notes) = omega (arith, length-map notes entry_of) in
      let next = next_row (entries_of notes) at (entry_of note) long (note_at at note within is) in
      was ∙ ap (λ l. rows_from 0 (take at (entries_of notes)) ++ l) (step ∙ ap (λ r. r ∷ left) same)
      ∙ sym (append_assoc (rows_from 0 (take at (entries_of notes))) (row_of at (entry_of note) ∷ []) left)
      ∙ ap (λ r. r ++ left) (sym next.0)

  -- no row is left for this note
  pub ends_before : (at : ℕ) (note : FeedNote) (left : List Row) → at < length notes → note ≡ get_or notes at note
      → rows ≡ rows_from 0 (take at (entries_of notes)) ++ left → left ≡ []
      → DifferAt rows (rows_from 0 (entries_of notes)) at
  ends_before at note left within is was none =
      let long : at < length (entries_of notes) = omega (arith, length-map notes entry_of) in
      let within_or_at : at ≤ length (entries_of notes) = omega arith in
      let next = next_row (entries_of notes) at (entry_of note) long (note_at at note within is) in
      record {
        same = rows_from 0 (take at (entries_of notes));
        some_left = [];
        others_left = row_of at (entry_of note) ∷ rows_from (at + 1) (drop (at + 1) (entries_of notes));
        some_are = was ∙ ap (λ l. rows_from 0 (take at (entries_of notes)) ++ l) none;
        others_are = next.1;
        place_is = places (entries_of notes) at within_or_at;
        apart = λ e. cc;
      }

  -- the row for this note is another
  pub differs : (at : ℕ) (note : FeedNote) (row : Row) (before left : List Row) → at < length notes
      → note ≡ get_or notes at note
      → rows ≡ rows_from 0 (take at (entries_of notes)) ++ before → before ≡ row ∷ left
      → (row ≡ row_of at (entry_of note) → ⊥) → DifferAt rows (rows_from 0 (entries_of notes)) at
  differs at note row before left within is was step other =
      let long : at < length (entries_of notes) = omega (arith, length-map notes entry_of) in
      let within_or_at : at ≤ length (entries_of notes) = omega arith in
      let next = next_row (entries_of notes) at (entry_of note) long (note_at at note within is) in
      record {
        same = rows_from 0 (take at (entries_of notes));
        some_left = row ∷ left;
        others_left = row_of at (entry_of note) ∷ rows_from (at + 1) (drop (at + 1) (entries_of notes));
        some_are = was ∙ ap (λ l. rows_from 0 (take at (entries_of notes)) ++ l) step;
        others_are = next.1;
        place_is = places (entries_of notes) at within_or_at;
        apart = λ e. let same : row ≡ row_of at (entry_of note) = cc in other same;
      }

  all_passed : (left : List Row) → rows ≡ rows_from 0 (take (length notes) (entries_of notes)) ++ left
      → rows ≡ rows_from 0 (entries_of notes) ++ left
  all_passed left was =
      let all : take (length notes) (entries_of notes) ≡ entries_of notes =
      ap (λ n. take n (entries_of notes)) (sym (length-map notes entry_of)) ∙ take-length (entries_of notes) in
      was ∙ ap (λ ns. rows_from 0 ns ++ left) all

  -- each note agrees, and a row is left
  pub one_left : (at : ℕ) (row : Row) (before left : List Row) → at ≡ length notes
      → rows ≡ rows_from 0 (take at (entries_of notes)) ++ before → before ≡ row ∷ left
      → DifferAt rows (rows_from 0 (entries_of notes)) (length notes)
  one_left at row before left end was step = record {
    same = rows_from 0 (entries_of notes);
    some_left = row ∷ left;
    others_left = [];
    some_are = all_passed before (subst (λ n. rows ≡ rows_from 0 (take n (entries_of notes)) ++ before) end was)
        ∙ ap (λ l. rows_from 0 (entries_of notes) ++ l) step;
    others_are = sym (append-nil (rows_from 0 (entries_of notes)));
    place_is = rows_length 0 (entries_of notes) ∙ length-map notes entry_of;
    apart = λ e. cc;
  }

-- each note agrees, and no row is left
pub all_same : (old before now : View) (notes : List FeedNote) (at : ℕ) (row : Row) → at ≡ length notes
    → old.trees 1 ≡ rows_from 0 (take at (entries_of notes)) ++ rows_left before 0 → OnlyReads old before
    → old.is_broken ≡ false → Passes before now row false → HasCompared old now (entries_of notes)
all_same old before now notes at row end was reads sound none =
    let all : old.trees 1 ≡ rows_from 0 (take (length notes) (entries_of notes)) ++ rows_left before 0 =
    subst (λ n. old.trees 1 ≡ rows_from 0 (take n (entries_of notes)) ++ rows_left before 0) end was in
    record {
      same = all_passed (old.trees 1) notes (rows_left before 0) all
          ∙ ap (λ l. rows_from 0 (entries_of notes) ++ l) none.1 ∙ append-nil (rows_from 0 (entries_of notes));
      reads = reads_then old before now reads none.0;
      sound = sound;
    }
