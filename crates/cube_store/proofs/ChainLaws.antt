-- Rows of changes: one that is put under the next number comes last, rows say what they were made of,
-- and each has its own digest.
use Rattle.std.proofs.Common.{◌≡◌, ℕ, suc, ◌+◌, ◌<◌, pos, List, [], ◌∷◌, ◌++◌, length, take, drop, refl, sym, ap, ap₂}
use Rattle.std.proofs.Common.{subst, ◌∙◌, arith, Less, length-append}
use Rattle.std.proofs.lemmas.List.{length-map, take-append-drop}
use Rattle.std.proofs.Math.Seq.{take-length}
use Rattle.std.specs.List.{AllByRecursion}
use Rattle.std.specs.Ordering.{match_ordering}
use Rattle.sqlite_value.specs.declared.value.Value.TheVariants.{Int, Blob}
use Rattle.sqlite_value.specs.Order.{Row, value_cmp}
use Rattle.sqlite_trees.specs.Tree.{put_row, rowid}
use Rattle.sqlite_trees.proofs.ListLemmas.{all-append}
use Rattle.cube_store.specs.declared.form.RowForm.{RowForm}
use Rattle.cube_store.specs.declared.form.RowForm.TheVariants.{Plain, Chained}
use Rattle.cube_store.specs.Rows.{Entry, row_of, entry_in, entries_in, IsOfSource, no_digest, next_digest, change_row}
use Rattle.cube_store.specs.Rows.{rows_after, digest_after, change_rows, last_digest, IsRowOf, AreChanges, IsRowAt}
use Rattle.cube_store.specs.Rows.{IsForeignAt, IsUnchainedAt}
use Rattle.cube_store.specs.Reading.{value_count}
use Rattle.cube_store.proofs.RowLaws.{lower_first}

-- ---- one row

row_says : (form : RowForm) (digest : List ℕ) (n : ℕ) (e : Entry) → entry_in (change_row form digest n e) ≡ e
row_says Plain digest n e = refl
row_says Chained digest n e = refl

row_numbered : (form : RowForm) (digest : List ℕ) (n : ℕ) (e : Entry) → rowid (change_row form digest n e) ≡ Int (pos n)
row_numbered Plain digest n e = refl
row_numbered Chained digest n e = refl

pub row_is_of : (form : RowForm) (digest : List ℕ) (n : ℕ) (e : Entry) → IsRowOf form n e (change_row form digest n e)
row_is_of Plain digest n e = refl
row_is_of Chained digest n e = (Blob digest, refl)

says_of : (form : RowForm) (n : ℕ) (e : Entry) (row : Row) → IsRowOf form n e row → entry_in row ≡ e
says_of Plain n e row is = ap entry_in is
says_of Chained n e row is = ap entry_in is.1

-- ---- rows one after another

pub chain_length : (form : RowForm) (before : List ℕ) (n : ℕ) (es : List Entry)
    → length (rows_after form before n es) ≡ length es
chain_length form before n [] = refl
chain_length form before n (e ∷ es) = ap suc (chain_length form (next_digest form before n e) (n + 1) es)

pub chain_entries : (form : RowForm) (before : List ℕ) (n : ℕ) (es : List Entry)
    → entries_in (rows_after form before n es) ≡ es
chain_entries form before n [] = refl
chain_entries form before n (e ∷ es) =
    ap₂ (λ x xs. x ∷ xs) (row_says form (next_digest form before n e) n e)
    (chain_entries form (next_digest form before n e) (n + 1) es)

-- one change more, whose number is the next
pub digest_more : (form : RowForm) (before : List ℕ) (start n : ℕ) (es : List Entry) (e : Entry) → start + length es ≡ n
    → digest_after form before start (es ++ e ∷ []) ≡ next_digest form (digest_after form before start es) n e
digest_more form before start n [] e place =
    let same : start ≡ n = omega arith in ap (λ k. next_digest form before k e) same
digest_more form before start n (d ∷ ds) e place =
    let later : (start + 1) + length ds ≡ n = omega arith in
    digest_more form (next_digest form before start d) (start + 1) n ds e later

pub chain_more : (form : RowForm) (before : List ℕ) (start n : ℕ) (es : List Entry) (e : Entry) → start + length es ≡ n
    → rows_after form before start (es ++ e ∷ [])
    ≡ rows_after form before start es ++ change_row form (next_digest form (digest_after form before start es) n e) n e ∷ []
chain_more form before start n [] e place =
    let same : start ≡ n = omega arith in ap (λ k. change_row form (next_digest form before k e) k e ∷ []) same
chain_more form before start n (d ∷ ds) e place =
    let later : (start + 1) + length ds ≡ n = omega arith in
    ap (λ rows. change_row form (next_digest form before start d) start d ∷ rows)
    (chain_more form (next_digest form before start d) (start + 1) n ds e later)

put_behind : (row one : Row) (rows : List Row) → value_cmp (rowid one) (rowid row) ≡ Less
    → put_row row (one ∷ rows) ≡ one ∷ put_row row rows
put_behind row one rows below =
    ap (λ o. match_ordering o (one ∷ put_row row rows) (row ∷ rows) (row ∷ one ∷ rows)) below

-- a row under the next number comes last
chain_put : (form : RowForm) (before : List ℕ) (start n : ℕ) (es : List Entry) (row : Row) → rowid row ≡ Int (pos n)
    → start + length es ≡ n → put_row row (rows_after form before start es) ≡ rows_after form before start es ++ row ∷ []
chain_put form before start n [] row id place = refl
chain_put form before start n (d ∷ ds) row id place =
    let below : start < n = omega arith in
    let later : (start + 1) + length ds ≡ n = omega arith in
    let digest = next_digest form before start d in
    let one = change_row form digest start d in
    put_behind row one (rows_after form digest (start + 1) ds)
    (ap₂ value_cmp (row_numbered form digest start d) id ∙ lower_first start n below)
    ∙ ap (λ rows. one ∷ rows) (chain_put form digest (start + 1) n ds row id later)

-- ---- a table of changes

-- rows that are those of changes are these changes
pub changes_from : (form : RowForm) (rows : List Row) (es : List Entry) (count : ℕ) → rows ≡ change_rows form es
    → AllByRecursion IsOfSource es → length es ≡ count → AreChanges form rows count
changes_from form rows es count is sources size =
    let back : entries_in rows ≡ es = ap entries_in is ∙ chain_entries form no_digest 1 es in
    record {
      rows_are = is ∙ ap (change_rows form) (sym back);
      sources = subst (AllByRecursion IsOfSource) (sym back) sources;
      count_is = ap length is ∙ chain_length form no_digest 1 es ∙ size;
    }

pub entries_count : (form : RowForm) (rows : List Row) (count : ℕ) → AreChanges form rows count
    → length (entries_in rows) ≡ count
entries_count form rows count are = length-map rows entry_in ∙ are.count_is

module _ (form : RowForm) (rows : List Row) (count : ℕ) (digest : List ℕ) (e : Entry) (are : AreChanges form rows count)
    (digest_is : digest ≡ last_digest form (entries_in rows)) where
  abbrev row_next : Row
  row_next = change_row form (next_digest form digest (count + 1) e) (count + 1) e

  place : 1 + length (entries_in rows) ≡ count + 1
  place = let size : length (entries_in rows) ≡ count = entries_count form rows count are in omega arith

  -- the next change is put behind the others
  pub put_is : put_row (change_row form (next_digest form digest (count + 1) e) (count + 1) e) rows
      ≡ change_rows form (entries_in rows ++ e ∷ [])
  put_is =
      ap (put_row row_next) are.rows_are
      ∙ chain_put form no_digest 1 (count + 1) (entries_in rows) row_next
      (row_numbered form (next_digest form digest (count + 1) e) (count + 1) e) place
      ∙ ap (λ d. change_rows form (entries_in rows) ++ change_row form (next_digest form d (count + 1) e) (count + 1) e ∷ [])
      digest_is
      ∙ sym (chain_more form no_digest 1 (count + 1) (entries_in rows) e place)

  -- with the next change put, the rows are those of one change more
  pub put_change : IsOfSource e
      → AreChanges form (put_row (change_row form (next_digest form digest (count + 1) e) (count + 1) e) rows) (count + 1)
  put_change source =
      let longer : length (entries_in rows ++ e ∷ []) ≡ count + 1 =
      omega (arith, place, length-append (entries_in rows) (e ∷ [])) in
      changes_from form _ (entries_in rows ++ e ∷ []) (count + 1) put_is
      (all-append IsOfSource (entries_in rows) (e ∷ []) are.sources (source, tt)) longer

  pub put_entries : entries_in (put_row (change_row form (next_digest form digest (count + 1) e) (count + 1) e) rows)
      ≡ entries_in rows ++ e ∷ []
  put_entries = ap entries_in put_is ∙ chain_entries form no_digest 1 (entries_in rows ++ e ∷ [])

  -- and what is behind it is chained to its digest
  pub put_digest : next_digest form digest (count + 1) e
      ≡ last_digest form (entries_in (put_row (change_row form (next_digest form digest (count + 1) e) (count + 1) e) rows))
  put_digest =
      ap (λ d. next_digest form d (count + 1) e) digest_is
      ∙ sym (digest_more form no_digest 1 (count + 1) (entries_in rows) e place) ∙ ap (last_digest form) (sym put_entries)

-- ---- no row of a table of changes is refused

-- the row after so many of these rows is one of them
row_behind : (form : RowForm) (digest : List ℕ) (start : ℕ) (before es : List Entry) (row : Row) (left : List Row)
    → rows_after form digest start before ++ row ∷ left ≡ rows_after form digest start es → AllByRecursion IsOfSource es
    → (e : Entry) × IsOfSource e
    × (row ≡ change_row form (next_digest form (digest_after form digest start before) (start + length before) e)
    (start + length before) e)
row_behind form digest start [] [] row left is all = absurd (cc)
row_behind form digest start [] (e ∷ es) row left is all =
    let same : start ≡ start + 0 = omega arith in
    let first : row ≡ change_row form (next_digest form digest start e) start e = cc in
    (e, all.0, first ∙ ap (λ n. change_row form (next_digest form digest n e) n e) same)
row_behind form digest start (b ∷ bs) [] row left is all = absurd (cc)
row_behind form digest start (b ∷ bs) (e ∷ es) row left is all =
    let first : change_row form (next_digest form digest start b) start b
    ≡ change_row form (next_digest form digest start e) start e = cc in
    let rest : rows_after form (next_digest form digest start b) (start + 1) bs ++ row ∷ left
    ≡ rows_after form (next_digest form digest start e) (start + 1) es = cc in
    let same : b ≡ e =
    sym (row_says form (next_digest form digest start b) start b) ∙ ap entry_in first
    ∙ row_says form (next_digest form digest start e) start e in
    let found = row_behind form (next_digest form digest start b) (start + 1) bs es row left
    (rest ∙ ap (λ x. rows_after form (next_digest form digest start x) (start + 1) es) (sym same)) all.1 in
    let later : (start + 1) + length bs ≡ start + length (b ∷ bs) = omega arith in (
      found.0,
      found.1,
      found.2
          ∙ ap (λ n. change_row form (next_digest form (digest_after form digest start (b ∷ bs)) n found.0) n found.0) later,
    )

row_at : (form : RowForm) (rows : List Row) (count number : ℕ) (before : List Entry) (row : Row)
    → AreChanges form rows count → IsRowAt form rows number before row
    → (e : Entry) × IsOfSource e
    × (row ≡ change_row form (next_digest form (last_digest form before) number e) number e)
row_at form rows count number before row are at =
    let found = row_behind form no_digest 1 before (entries_in rows) row at.left (sym at.rows_are ∙ are.rows_are)
    are.sources in
    let place : 1 + length before ≡ number = omega (arith, at.place_is) in (
      found.0,
      found.1,
      found.2 ∙ ap (λ n. change_row form (next_digest form (last_digest form before) n found.0) n found.0) place,
    )

-- rows of changes have none that is foreign
pub none_foreign : (form : RowForm) (rows : List Row) (count number : ℕ) → AreChanges form rows count
    → IsForeignAt form rows number → ⊥
none_foreign form rows count number are at =
    let found = row_at form rows count number at.before at.row are at.stands in
    at.foreign found.0 found.1 (subst (λ r. IsRowOf form number found.0 r) (sym found.2)
    (row_is_of form (next_digest form (last_digest form at.before) number found.0) number found.0))

-- and none that isn't chained to those before it
pub none_unchained : (form : RowForm) (rows : List Row) (count number : ℕ) → AreChanges form rows count
    → IsUnchainedAt form rows number → ⊥
none_unchained form rows count number are at =
    let found = row_at form rows count number at.before at.row are at.stands in
    let digest = next_digest form (last_digest form at.before) number found.0 in
    let same : found.0 ≡ at.change =
    sym (row_says form digest number found.0) ∙ ap entry_in (sym found.2) ∙ says_of form number at.change at.row at.next in
    at.unchained (found.2
    ∙ ap (λ e. change_row form (next_digest form (last_digest form at.before) number e) number e) same)

-- ---- the values of one row

-- those of the row of a change are what it says without its digest
pub head_of : (form : RowForm) (n : ℕ) (e : Entry) (row : Row) → IsRowOf form n e row → take 4 row ≡ row_of n e
head_of Plain n e row is = ap (take 4) is
head_of Chained n e row is = ap (take 4) is.1

last_of : (row : Row) (n : ℕ) (e : Entry) → length row ≡ 5 → take 4 row ≡ row_of n e → IsRowOf Chained n e row
last_of row n e long is = found (drop 4 row) (sym (take-append-drop 4 row) ∙ ap (λ r. r ++ drop 4 row) is)
  where
    found : (rest : Row) → row ≡ row_of n e ++ rest → IsRowOf Chained n e row
    found [] same = absurd (omega (arith, long, ap length same))
    found (last ∷ []) same = (last, same)
    found (last ∷ more ∷ rest) same =
        absurd (omega (arith, long, ap length same))

-- a row of so many values that begins as that of a change is one
pub row_from_head : (form : RowForm) (n : ℕ) (e : Entry) (row : Row) → length row ≡ value_count form
    → take 4 row ≡ row_of n e → IsRowOf form n e row
row_from_head Plain n e row long is = sym (ap (λ k. take k row) (sym long) ∙ take-length row) ∙ is
row_from_head Chained n e row long is = last_of row n e long is
