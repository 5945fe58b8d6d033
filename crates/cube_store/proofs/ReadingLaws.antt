-- What a reading of rows has passed.
use Rattle.std.proofs.Common.{◌≡◌, ◌⊎◌, inl, inr, ℕ, ◌+◌, ◌≤◌, Bool, true, false, List, [], ◌∷◌, ◌++◌, length}
use Rattle.std.proofs.Common.{IsTrue, refl, sym, ap, subst, ◌∙◌, arith, append_assoc, length-append}
use Rattle.std.proofs.Common.{Result, Ok, Err, IfOk, IfErr}
use Rattle.std.proofs.lemmas.List.{append-nil}
use Rattle.sqlite_disk.specs.Disk.{MoreFaults}
use Rattle.sqlite_value.specs.declared.keys.Order.{Order}
use Rattle.sqlite_value.specs.Order.{Row}
use Rattle.sqlite_trees.specs.declared.store.Direction.TheVariants.{Forward}
use Rattle.sqlite_trees.specs.declared.error.StoreError.{StoreError}
use Rattle.sqlite_trees.specs.declared.error.StoreError.TheVariants.{OutOfMemory, Io, Corrupt, Full, Broken, Unstorable}
use Rattle.sqlite_trees.specs.Tree.{Trees, order_of, from_key, sought}
use Rattle.sqlite_trees.specs.View.{View, IsClean, with_cursor, Advances, HasCause, IsQuiet}
use Rattle.sqlite_trees.proofs.ListLemmas.{all-append}
use Rattle.cube_store.specs.declared.fault.OpenFault.{OpenFault}
use Rattle.cube_store.specs.declared.fault.OpenFault.TheVariants as kind
use Rattle.cube_store.specs.declared.form.RowForm.{RowForm}
use Rattle.cube_store.specs.Rows.{Entry, no_digest, next_digest, change_row, change_rows, last_digest, entries_in}
use Rattle.cube_store.specs.Rows.{IsOfSource, AreChanges, IsRowAt, IsForeignAt, IsUnchainedAt}
use Rattle.cube_store.specs.State.{OnlyReads, rows_left, LeadsTo, IsCause, ExplainsUnopened, form_in}
use Rattle.cube_store.specs.Reading.{StandsBeforeFirst, Passes, HasTaken, IsntTaken, HasPassed, HasReplayed}
use Rattle.cube_store.proofs.ChainLaws.{chain_more, chain_length, chain_entries, digest_more, changes_from}

from_no_key : (o : Order) (rows : List Row) → from_key o [] rows ≡ rows
from_no_key o [] = refl
from_no_key o (row ∷ rows) = refl

pub begins : (old new : View) (tree : ℕ) (key : Row) → key ≡ []
    → new ≡ with_cursor old 0 (sought (order_of (old.shape tree)) Forward key (old.trees tree))
    → StandsBeforeFirst old new tree
begins old new tree key none is =
    let order = order_of (old.shape tree) in
    record {
      reads = rw is;
      left = ap (λ (v : View). rows_left v 0) is ∙ ap (λ k. from_key order k (old.trees tree)) none
          ∙ from_no_key order (old.trees tree);
    }

pub passes : (old new : View) (row : Row) (found : Bool) → Advances old new 0 row found → Passes old new row found
passes old new row true h = (rw h.2, rw (h.1, h.2))
passes old new row false h = (rw h.1, rw h.0)

pub reads_then : (a b c : View) → OnlyReads a b → OnlyReads b c → OnlyReads a c
reads_then a b c p q = q ∙ ap (λ (v : View). let w : View = record v { cursors = c.cursors } in w) p

pub read_by : (old new : View) (row : Row) (found : Bool) → Passes old new row found → OnlyReads old new
read_by old new row true h = h.0
read_by old new row false h = h.0

-- a call that reads fails for the same reasons, in the words of this crate
pub read_cause : (v : View) (fault : Type 0) (e : StoreError) → HasCause v fault ⊥ e
    → IsCause fault (IsTrue v.is_broken) ⊥ e
read_cause v fault OutOfMemory h = tt
read_cause v fault Io h = h
read_cause v fault Corrupt h = h
read_cause v fault Full h = h
read_cause v fault Broken h = h
read_cause v fault Unstorable h = h

-- a wider fault, and another way in which the store was shut
pub cause_then : (fault more shut before unstorable wider : Type 0) (e : StoreError) → (fault → more) → (shut → before)
    → (unstorable → wider) → IsCause fault shut unstorable e → IsCause more before wider e
cause_then fault more shut before unstorable wider OutOfMemory up back wide h = tt
cause_then fault more shut before unstorable wider Io up back wide h = up h
cause_then fault more shut before unstorable wider Corrupt up back wide h = up h
cause_then fault more shut before unstorable wider Full up back wide h = up h
cause_then fault more shut before unstorable wider Broken up back wide h = back h
cause_then fault more shut before unstorable wider Unstorable up back wide h = wide h

-- what two clauses say of one result
pub ok_both : {X Y : Type 0} (r : Result X Y) (P Q R : X → Type 0) → ((x : X) → P x → Q x → R x) → IfOk r P → IfOk r Q
    → IfOk r R
ok_both (Ok x) P Q R both p q = both x p q
ok_both (Err e) P Q R both p q = tt

pub err_both : {X Y : Type 0} (r : Result X Y) (P Q R : Y → Type 0) → ((y : Y) → P y → Q y → R y) → IfErr r P
    → IfErr r Q → IfErr r R
err_both (Ok x) P Q R both p q = tt
err_both (Err e) P Q R both p q = both e p q

pub quiet_then : {S : Type 0} (view : S → View) (faults : S → ℕ) (recovers : S → Trees → Type 0)
    (shielded : S → Type 0) (a b c : S) → IsQuiet view faults recovers shielded a b
    → IsQuiet view faults recovers shielded b c
    → IsQuiet view faults recovers shielded a c
quiet_then view faults recovers shielded a b c x y = record {
  shield = λ h. y.shield (x.shield h);
  clean = omega (arith, x.clean, y.clean);
  counts = omega (arith, x.counts, y.counts);
  closes = λ h is_open. let clean_b : IsClean (view b) = omega (arith, y.clean) in after h (x.closes clean_b is_open);
  outcomes = λ db h. x.outcomes db (y.outcomes db h);
}
  where
    wide_first : MoreFaults (faults a) (faults b) → MoreFaults (faults a) (faults c)
    wide_first f = omega (arith, y.counts)

    wide_last : MoreFaults (faults b) (faults c) → MoreFaults (faults a) (faults c)
    wide_last f = omega (arith, x.counts)

    last : IsTrue (view c).is_open ⊎ MoreFaults (faults b) (faults c)
        → IsTrue (view c).is_open ⊎ MoreFaults (faults a) (faults c)
    last (inl is_open) = inl is_open
    last (inr f) = inr (wide_last f)

    after : IsClean (view c) → IsTrue (view b).is_open ⊎ MoreFaults (faults a) (faults b)
        → IsTrue (view c).is_open ⊎ MoreFaults (faults a) (faults c)
    after h (inl is_open) = last (y.closes h is_open)
    after h (inr f) = inr (wide_first f)

takes_more : {K : Type 0} (takes : K → Entry → K → Type 0) (es : List Entry) (start mid end : K) (e : Entry)
    → LeadsTo takes start es mid → takes mid e end → LeadsTo takes start (es ++ e ∷ []) end
takes_more takes [] start mid end e all one = (end, subst (λ k. takes k e end) (sym all) one, refl)
takes_more takes (d ∷ es) start mid end e all one = (all.0, all.1, takes_more takes es all.0 mid end e all.2 one)

module _ {K : Type 0} (takes : K → Entry → K → Type 0) (form : RowForm) where
  pub none_taken : (rows left : List Row) (start : K) → left ≡ rows
      → HasPassed takes form rows left 0 no_digest start start
  none_taken rows left start all = record {
    passed = [];
    rows_are = sym all;
    digest_is = refl;
    sources = tt;
    count_is = refl;
    taken = refl;
  }

  pub one_taken : (rows before left : List Row) (row : Row) (at : ℕ) (digest next : List ℕ) (start mid end : K)
      → HasPassed takes form rows before at digest start mid → before ≡ row ∷ left
      → HasTaken takes form digest (at + 1) row mid end next
      → HasPassed takes form rows left (at + 1) next start end
  one_taken rows before left row at digest next start mid end was step one =
      let passed = was.passed in
      let e = one.change in
      let size : length passed ≡ at = was.count_is in
      let place : 1 + length passed ≡ at + 1 = omega arith in
      let longer : length (passed ++ e ∷ []) ≡ at + 1 = omega (arith, length-append passed (e ∷ [])) in
      let chained : next ≡ next_digest form (last_digest form passed) (at + 1) e =
      one.digest_is ∙ ap (λ d. next_digest form d (at + 1) e) was.digest_is in
      let is : row ≡ change_row form (next_digest form (last_digest form passed) (at + 1) e) (at + 1) e =
      one.row_is ∙ ap (λ d. change_row form d (at + 1) e) chained in
      let new = change_row form (next_digest form (last_digest form passed) (at + 1) e) (at + 1) e in
      record {
        passed = passed ++ e ∷ [];
        rows_are = was.rows_are ∙ ap (λ l. change_rows form passed ++ l) (step ∙ ap (λ r. r ∷ left) is)
            ∙ sym (append_assoc (change_rows form passed) (new ∷ []) left)
            ∙ ap (λ r. r ++ left) (sym (chain_more form no_digest 1 (at + 1) passed e place));
        digest_is = chained ∙ sym (digest_more form no_digest 1 (at + 1) passed e place);
        sources = all-append IsOfSource passed (e ∷ []) was.sources (one.source, tt);
        count_is = longer;
        taken = takes_more takes passed start mid end e was.taken one.taken;
      }

  -- the next row isn't taken
  pub row_stands : (rows before left : List Row) (row : Row) (at : ℕ) (digest : List ℕ) (start end : K)
      → (was : HasPassed takes form rows before at digest start end) → before ≡ row ∷ left
      → IsRowAt form rows (at + 1) was.passed row
  row_stands rows before left row at digest start end was step = record {
    left = left;
    rows_are = was.rows_are ∙ ap (λ l. change_rows form was.passed ++ l) step;
    place_is = ap (λ n. n + 1) was.count_is;
  }

  pub not_taken : (fault shut is_open tables : Type 0) (trees : Trees) (notes : List Entry) (before left : List Row)
      (row : Row) (at : ℕ) (digest : List ℕ) (start end : K) (e : OpenFault)
      → HasPassed takes form (trees 0) before at digest start end → before ≡ row ∷ left → is_open
      → IsntTaken form digest (at + 1) row e → ExplainsUnopened fault shut is_open tables form trees notes e
  not_taken fault shut is_open tables trees notes before left row at digest start end
      (kind.Store error) was step sound why = subst (IsCause fault shut ⊥) (sym why) tt
  not_taken fault shut is_open tables trees notes before left row at digest start end kind.NoTables was step sound why =
      absurd why
  not_taken fault shut is_open tables trees notes before left row at digest start end
      (kind.Feed source) was step sound why = absurd why
  not_taken fault shut is_open tables trees notes before left row at digest start end
      (kind.Row number) was step sound why = (
        sound,
        subst (IsForeignAt form (trees 0)) (sym why.0) (record {
          before = was.passed;
          row = row;
          stands = row_stands (trees 0) before left row at digest start end was step;
          foreign = why.1;
        }),
      )
  not_taken fault shut is_open tables trees notes before left row at digest start end
      (kind.Digest number) was step sound why = (
        sound,
        subst (IsUnchainedAt form (trees 0)) (sym why.0) (record {
          before = was.passed;
          row = row;
          change = why.1.0;
          stands = row_stands (trees 0) before left row at digest start end was step;
          source = why.1.1;
          next = why.1.2;
          unchained = λ is. why.1.3
              (is ∙ ap (λ d. change_row form (next_digest form d (at + 1) why.1.0) (at + 1) why.1.0) (sym was.digest_is));
        }),
      )
  not_taken fault shut is_open tables trees notes before left row at digest start end kind.TooMany was step sound why =
      absurd why

  pub taken_length : (rows left : List Row) (at : ℕ) (digest : List ℕ) (start end : K)
      → HasPassed takes form rows left at digest start end → at ≤ length rows
  taken_length rows left at digest start end was = omega (
    arith,
    ap length was.rows_are,
    length-append (change_rows form was.passed) left,
    chain_length form no_digest 1 was.passed,
    was.count_is,
  )

module _ {K : Type 0} (takes : K → Entry → K → Type 0) where
  pub all_taken : (old before now : View) (row : Row) (at : ℕ) (digest : List ℕ) (start end : K)
      → HasPassed takes (form_in old) (old.trees 0) (rows_left before 0) at digest start end → OnlyReads old before
      → old.is_broken ≡ false → Passes before now row false
      → HasReplayed takes old now at digest start end
  all_taken old before now row at digest start end was reads sound none =
      let form = form_in old in
      let rows = old.trees 0 in
      let is : rows ≡ change_rows form was.passed =
      was.rows_are ∙ ap (λ l. change_rows form was.passed ++ l) none.1 ∙ append-nil (change_rows form was.passed) in
      let back : entries_in rows ≡ was.passed = ap entries_in is ∙ chain_entries form no_digest 1 was.passed in
      record {
        changes = changes_from form rows was.passed at is was.sources was.count_is;
        digest_is = was.digest_is ∙ ap (last_digest form) (sym back);
        taken = subst (λ es. LeadsTo takes start es end) (sym back) was.taken;
        reads = reads_then old before now reads none.0;
        sound = sound;
      }

  -- the same, as of before another reading
  pub replayed_since : (old mid now : View) (count : ℕ) (digest : List ℕ) (start end : K) → OnlyReads old mid
      → HasReplayed takes mid now count digest start end → HasReplayed takes old now count digest start end
  replayed_since old mid now count digest start end reads was = record {
    changes = subst (λ form. AreChanges form (old.trees 0) count) (ap (λ (v : View). form_in v) reads)
        (subst (λ (t : Trees). AreChanges (form_in mid) (t 0) count) (ap (λ (v : View). v.trees) reads) was.changes);
    digest_is = was.digest_is
        ∙ ap (λ (v : View). last_digest (form_in v) (entries_in (v.trees 0))) reads;
    taken = subst (λ (t : Trees). LeadsTo takes start (entries_in (t 0)) end) (ap (λ (v : View). v.trees) reads)
        was.taken;
    reads = reads_then old mid now reads was.reads;
    sound = sym (ap (λ (v : View). v.is_broken) reads) ∙ was.sound;
  }
