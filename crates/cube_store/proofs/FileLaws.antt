-- From the files of a pool to what they hold.
use Rattle.std.proofs.Common.{◌≡◌, ◌⊎◌, inl, inr, ◌<◌, ◌≤◌, ℕ, Bool, true, false, ◌&&◌, IsTrue, Option, Some, None}
use Rattle.std.proofs.Common.{List, [], ◌∷◌, Result, Ok, Err, IfOk, IfErr, length, slice_index, refl, sym, ap, ap₂, subst, ◌∙◌}
use Rattle.std.proofs.Common.{arith, true≢false}
use Rattle.std.proofs.lemmas.Bool.{cond-true}
use Rattle.std.proofs.Math.Logic.{∥∥₁_elim, ∥∥₁_map}
use Rattle.sqlite_disk.specs.declared.Disk.{Ghosts}
use Rattle.sqlite_wal.specs.Recovery.{Image}
use Rattle.sqlite_wal.specs.Recovery as raw
use Rattle.sqlite_wal.specs.Files.{seen_image}
use Rattle.sqlite_wal.specs.Reads.{are_clean, AreClean, OnlyReads}
use Rattle.sqlite_pool.specs.declared.pool.Pool.{Pool}
use Rattle.sqlite_pool.specs.Pool.{state, files}
use Rattle.sqlite_pool.specs.Stored.{Recovers}
use Rattle.sqlite_pool.specs.Opening.{IsBlankFile}
use Rattle.sqlite_pool.specs.StoredLaws.{recovers_once}
use Rattle.sqlite_pool.specs.File.{in_use}
use Rattle.sqlite_value.specs.Order.{Row}
use Rattle.sqlite_pool.proofs.ProbeLemmas.{not_blank, reserved_word}
use Rattle.sqlite_pool.proofs.ResealLemmas.{adopts_of}
use Rattle.sqlite_trees.specs.declared.store.Shape.TheVariants.{Table}
use Rattle.sqlite_trees.specs.Tree.{Trees, no_trees}
use Rattle.sqlite_trees.specs.View.{View}
use Rattle.sqlite_btree.proofs.StoredLemmas.{stored_root_live}
use Rattle.sqlite_store.specs.declared.catalog.Wanted.{Wanted}
use Rattle.sqlite_store.specs.Saved.{kept_schema, schema_for}
use Rattle.sqlite_store.specs.Db.{IsDb, IsFile, IsKept, roots_of, rows_at, slot_root, slot_shape}
use Rattle.sqlite_store.specs.Catalog.{roots_in}
use Rattle.sqlite_store.specs.Opening.{IsEmptyFile}
use Rattle.sqlite_store.specs.Listing.{file_trees, all_shapes, all_reals}
use Rattle.sqlite_store.specs.declared.store.FileStore.{FileStore}
use Rattle.sqlite_store.specs.FileStore.{schema_of, schema_in, reading, recovers, view}
use Rattle.sqlite_store.specs.FileStore.{state as state_of_store}
use Rattle.sqlite_store.specs.declared.store.open.Unopened.{Unopened}
use Rattle.sqlite_store.specs.Unopened.{state_of, wanted_by, files_of, image, HasFile, HasSomeFile}
use Rattle.sqlite_store.specs.Unopened.{IsCatalogOf}
use Rattle.sqlite_pages.specs.PageMap.{PageMap}
use Rattle.cube_store.specs.declared.form.RowForm.{RowForm}
use Rattle.cube_store.specs.declared.form.RowForm.TheVariants.{Plain, Chained}
use Rattle.cube_store.specs.Calls.{HasCommitted}
use Rattle.cube_store.specs.State.{HasTables, IsUnmade, form_by, stored_form}
use Rattle.cube_store.specs.Found.{store_schema, catalog_in, tables_in, listed_form, form_told, StoreOf, StoreIn}
use Rattle.cube_store.specs.Found.{HasTablesOf, HasLooked, HasNoTable, IsUnstarted, IsFoundAs, ReadsAs, IsFound, IsFoundMade}
use Rattle.cube_store.proofs.ListedLaws.{file_lists}

-- ---- what two clauses say of one result

pub ok_both : {X Y : Type 0} (r : Result X Y) (P Q R : X → Type 0) → ((x : X) → P x → Q x → R x) → IfOk r P → IfOk r Q
    → IfOk r R
ok_both (Ok x) P Q R both p q = both x p q
ok_both (Err e) P Q R both p q = tt

pub ok_three : {X Y : Type 0} (r : Result X Y) (P Q R S : X → Type 0) → ((x : X) → P x → Q x → R x → S x)
    → IfOk r P → IfOk r Q → IfOk r R → IfOk r S
ok_three (Ok x) P Q R S all p q r = all x p q r
ok_three (Err e) P Q R S all p q r = tt

pub ok_four : {X Y : Type 0} (r : Result X Y) (P Q R S T : X → Type 0)
    → ((x : X) → P x → Q x → R x → S x → T x) → IfOk r P → IfOk r Q → IfOk r R → IfOk r S → IfOk r T
ok_four (Ok x) P Q R S T all p q r s = all x p q r s
ok_four (Err e) P Q R S T all p q r s = tt

pub err_both : {X Y : Type 0} (r : Result X Y) (P Q R : Y → Type 0) → ((y : Y) → P y → Q y → R y) → IfErr r P
    → IfErr r Q → IfErr r R
err_both (Ok x) P Q R both p q = tt
err_both (Err e) P Q R both p q = both e p q

-- ---- which files are clean

pool_is_clean : {D : Type 0} {g : Ghosts D} (it : Pool D g)
    → (state it).is_clean ≡ are_clean g (files it).0 (files it).1
unfolding state files
pool_is_clean it = refl

pub files_are_clean : {D : Type 0} {g : Ghosts D} (it : Unopened D g) (log db : D) → files_of it ≡ (log, db)
    → IsTrue (state_of it).is_clean → AreClean g log db
files_are_clean {g = g} it log db is clean = sym (pool_is_clean it.pool ∙ ap (λ f. are_clean g f.0 f.1) is) ∙ clean

pub left_is_clean : {D : Type 0} {g : Ghosts D} (it : Unopened D g) (log db : D) → (log, db) ≡ files_of it
    → AreClean g log db → IsTrue (state_of it).is_clean
left_is_clean {g = g} it log db is clean = pool_is_clean it.pool ∙ ap (λ f. are_clean g f.0 f.1) (sym is) ∙ clean

pub same_image : {D : Type 0} {g : Ghosts D} (it : Unopened D g) (log db before_log before_db : D)
    → files_of it ≡ (log, db) → OnlyReads g before_log log → OnlyReads g before_db db
    → image it ≡ seen_image g before_log before_db
same_image {g = g} it log db before_log before_db is l d =
    ap (λ f. seen_image g f.0 f.1) is ∙ ap₂ (λ a b. let i : Image = record { log = a; db = b } in i) l.seen d.seen

both_before : (a b c d : Bool) → (IsTrue a → IsTrue c) → (IsTrue b → IsTrue d) → IsTrue (a && b) → IsTrue (c && d)
both_before true true c d f g h = rw (f refl, g refl) refl
both_before true false c d f g h = absurd (true≢false (sym h))
both_before false b c d f g h = absurd (true≢false (sym h))

pub log_is_clean : (a b : Bool) → IsTrue (a && b) → IsTrue a
log_is_clean true b h = refl
log_is_clean false b h = absurd (true≢false (sym h))

pub was_clean : {D : Type 0} {g : Ghosts D} (log db before_log before_db : D) → OnlyReads g before_log log
    → OnlyReads g before_db db → AreClean g log db → AreClean g before_log before_db
was_clean {g = g} log db before_log before_db l d clean =
    both_before (g.is_clean log) (g.is_clean db) (g.is_clean before_log) (g.is_clean before_db) l.clean d.clean clean

pub same_seen : {D : Type 0} {g : Ghosts D} (log db before_log before_db : D) → OnlyReads g before_log log
    → OnlyReads g before_db db → seen_image g log db ≡ seen_image g before_log before_db
same_seen log db before_log before_db l d = ap₂ (λ a b. let i : Image = record { log = a; db = b } in i) l.seen d.seen

-- ---- the two tables of an open store

module _ where
  changes_shape : (form : RowForm) → all_shapes (store_schema form) 0 ≡ Table
  unfolding all_shapes
  changes_shape Plain = refl
  changes_shape Chained = refl

  feeds_shape : (form : RowForm) → all_shapes (store_schema form) 1 ≡ Table
  unfolding all_shapes
  feeds_shape Plain = refl
  feeds_shape Chained = refl

  changes_form : (form : RowForm) → form_by (all_reals (store_schema form) 0) ≡ form
  unfolding all_reals
  changes_form Plain = refl
  changes_form Chained = refl

pub store_tables : {D : Type 0} {g : Ghosts D} (it : FileStore D g) (form : RowForm) → schema_of it ≡ store_schema form
    → it.saved ≡ None → HasTables (view it)
store_tables it form schema unaltered = record {
  changes = ap (λ (s : List Wanted). all_shapes s 0) schema ∙ changes_shape form;
  feeds = ap (λ (s : List Wanted). all_shapes s 1) schema ∙ feeds_shape form;
  unaltered = ap (λ o. all_shapes (kept_schema o (schema_of it))) unaltered;
  same_form = ap (λ o. all_reals (kept_schema o (schema_of it))) unaltered;
}

-- and the form of its table of changes
pub store_form : {D : Type 0} {g : Ghosts D} (it : FileStore D g) (form : RowForm) → schema_of it ≡ store_schema form
    → it.saved ≡ None → stored_form (view it) ≡ form
store_form it form schema unaltered =
    ap (λ o. form_by (all_reals (kept_schema o (schema_of it)) 0)) unaltered
    ∙ ap (λ (s : List Wanted). form_by (all_reals s 0)) schema ∙ changes_form form

-- ---- images that are a store's

pub not_blank_store : (it : Image) → StoreIn it → IsBlankFile 4096 it → ⊥
not_blank_store it found blank =
    let large : 504 ≤ 4096 = omega arith in
    let some : 0 < 4096 = omega arith in
    let pages = found.1.0 in
    not_blank 4096 it pages (adopts_of _ it pages found.1.1) large found.1.2.sound 4096 some blank

-- the pages of a log that can be read begin with an S
pub begin_is : (it : Image) → StoreIn it → (stored : raw.Pages) × (first : List ℕ) × raw.Recovers 4096 it stored
    × (stored 1 ≡ Some first) × (length first ≡ 4096) × (slice_index first 0 ≡ 83)
begin_is it found =
    let large : 504 ≤ 4096 = omega arith in
    let pages = found.1.0 in
    let adopts = adopts_of 4096 it pages found.1.1 in
    let page = reserved_word 4096 it pages adopts large found.1.2.sound in
    (adopts.stored, page.0, adopts.found, page.1, page.2, page.4)

pub log_is_read : (it : Image) → StoreIn it → ((k : ℕ) → raw.Replays 4096 it.log k → ⊥) → ⊥
log_is_read it found never = let begin = begin_is it found in never begin.2.frames begin.2.replays

-- ---- what an opening finds

pub reads_as : {D : Type 0} {g : Ghosts D} (it : FileStore D g) (form : RowForm) (before : Image)
    → IsTrue (state_of_store it).is_clean
    → (state_of_store it).page_size ≡ 4096 → schema_of it ≡ store_schema form → it.saved ≡ None
    → Recovers 4096 before (state_of_store it).committed → HasTablesOf form before (view it)
reads_as it form before clean size schema unaltered found =
    let listing : kept_schema it.saved (schema_of it) ≡ store_schema form =
    ap (λ o. kept_schema o (schema_of it)) unaltered ∙ schema in
    let reads : (view it).committed ≡ tables_in form (state_of_store it).committed =
    cond-true _
    (file_trees (state_of_store it).page_size (kept_schema it.saved (schema_of it)) (state_of_store it).committed)
    no_trees clean
    ∙ ap₂ (λ n s. file_trees n s (state_of_store it).committed) size listing in
    ((state_of_store it).committed, found, ap (λ (t : Trees). t 0) reads, ap (λ (t : Trees). t 1) reads)

pub has_file : {D : Type 0} {g : Ghosts D} (it : Unopened D g) (form : RowForm) → (state_of it).page_size ≡ 4096
    → wanted_by it ≡ store_schema form → StoreOf form (image it) → HasFile it
has_file it form size schema found = (
  found.0,
  subst (λ n. Recovers n (image it) found.0) (sym size) found.1,
  subst (λ n. IsFile n (wanted_by it) found.0) (sym size) (subst (λ s. IsFile 4096 s found.0) (sym schema) found.2),
)

pub has_some_file : {D : Type 0} {g : Ghosts D} (it : Unopened D g) → (state_of it).page_size ≡ 4096
    → StoreIn (image it) → HasSomeFile it
has_some_file it size found = (
  found.1.0,
  subst (λ n. Recovers n (image it) found.1.0) (sym size) found.1.1,
  (store_schema found.0, subst (λ n. IsFile n (store_schema found.0) found.1.0) (sym size) found.1.2),
)

pub image_is : {D : Type 0} {g : Ghosts D} (it : Unopened D g) (log db : D) → files_of it ≡ (log, db)
    → image it ≡ seen_image g log db
image_is {g = g} it log db is = ap (λ f. seen_image g f.0 f.1) is

pub image_left : {D : Type 0} {g : Ghosts D} (it : Unopened D g) (log db : D) → (log, db) ≡ files_of it
    → seen_image g log db ≡ image it
image_left {g = g} it log db is = ap (λ f. seen_image g f.0 f.1) is

-- ---- what a look at the list of tables tells

pub has_looked : {D : Type 0} {g : Ghosts D} (old new : Unopened D g) (rows : List Row) (told : Option RowForm)
    → (state_of old).page_size ≡ 4096 → IsCatalogOf old new rows → form_told rows ≡ told
    → HasLooked (image old) (image new) told
has_looked old new rows told size catalog tells = record {
  pages = catalog.pages;
  found = subst (λ n. Recovers n (image old) catalog.pages) size catalog.found;
  again = subst (λ n. Recovers n (image new) catalog.pages) size catalog.again;
  lists = ap form_told (sym (catalog.lists ∙ ap (λ n. rows_at n (in_use n catalog.pages) Table 1) size)) ∙ tells;
}

told_some : (rows : List Row) (form : RowForm) → form_told rows ≡ Some form → listed_form rows ≡ form
told_some [] form told = absurd (cc)
told_some (row ∷ rows) form told = cc

told_none : (rows : List Row) → form_told rows ≡ None → rows ≡ []
told_none [] told = refl
told_none (row ∷ rows) told = absurd (cc)

module _ (old new : Image) (form : RowForm) (looked : HasLooked old new (Some form)) where
  lists : listed_form (catalog_in looked.pages) ≡ form
  lists = told_some (catalog_in looked.pages) form looked.lists

  -- what was a store before the look is one of this form after it
  pub store_after : StoreIn old → StoreOf form new
  store_after was =
      let pages = was.1.0 in
      let same : looked.pages ≡ pages = recovers_once 4096 old looked.pages pages looked.found was.1.1 in
      let listed : listed_form (catalog_in pages) ≡ form =
      ap (λ p. listed_form (catalog_in p)) (sym same) ∙ lists in
      let one : form ≡ was.0 = sym listed ∙ was.1.3 in (
        pages,
        subst (λ p. Recovers 4096 new p) same looked.again,
        subst (λ f. IsFile 4096 (store_schema f) pages) (sym one) was.1.2,
        listed,
      )

  -- what is found after the look was there before it
  pub found_before : (v : View) → IsFoundAs form new v → IsFoundMade old v
  found_before v is =
      let held = is.reads in
      let same : looked.pages ≡ held.0 = recovers_once 4096 new looked.pages held.0 looked.again held.1 in
      record {
        is_open = is.is_open;
        tables = is.tables;
        reads = (
          held.0,
          subst (λ p. Recovers 4096 old p) same looked.found,
          held.2 ∙ ap (λ f. tables_in f held.0 0) (sym is.of_form),
          held.3 ∙ ap (λ f. tables_in f held.0 1) (sym is.of_form),
          ap (λ p. listed_form (catalog_in p)) (sym same) ∙ lists ∙ sym is.of_form,
        );
      }

-- ---- files that list nothing

changes_shape_at : (form : RowForm) → slot_shape (store_schema form) 1 ≡ Table
changes_shape_at Plain = refl
changes_shape_at Chained = refl

both_roots : (form : RowForm) → roots_in [] (store_schema form) ≡ 0 ∷ 0 ∷ []
both_roots form = refl

-- the roots of two tables that aren't listed are one page, which two trees would own
listed_apart : (form : RowForm) (pages : PageMap) → IsDb 4096 (store_schema form) pages → rows_at 4096 pages Table 1 ≡ []
    → ⊥
unfolding roots_of
listed_apart form pages db none =
    let roots : roots_of 4096 (store_schema form) pages ≡ 0 ∷ 0 ∷ [] =
    ap (λ rows. roots_in rows (store_schema form)) none ∙ both_roots form in
    let kept = subst (λ w. IsKept 4096 (db.layouts 1) w (slot_root (roots_of 4096 (store_schema form) pages) 1))
    (changes_shape_at form) (db.trees.kept 1) in
    let first = subst (λ (rs : List ℕ). IsKept 4096 (db.layouts 1) Table (slot_root rs 1)) roots kept in
    let second = subst (λ (rs : List ℕ). IsKept 4096 (db.layouts 2) Table (slot_root rs 2)) roots (db.trees.kept 2) in
    db.trees.apart 1 2 0 (omega arith) (inl (stored_root_live first.1.stored)) (inl (stored_root_live second.1.stored))

-- a store lists its tables
lists_tables : (it : Image) (pages : PageMap) → Recovers 4096 it pages → catalog_in pages ≡ [] → StoreIn it → ⊥
lists_tables it pages found none store =
    let one = recovers_once 4096 it store.1.0 pages store.1.1 found in
    listed_apart store.0 (in_use 4096 pages) (subst (λ p. IsFile 4096 (store_schema store.0) p) one store.1.2).db none

module _ (old new : Image) (looked : HasLooked old new None) where
  pub none_is_no_store : StoreIn old → ⊥
  none_is_no_store = lists_tables old looked.pages looked.found (told_none (catalog_in looked.pages) looked.lists)

  pub no_table_before : HasNoTable new → HasNoTable old
  no_table_before none =
      let one = recovers_once 4096 new none.0 looked.pages none.1 looked.again in
      (looked.pages, looked.found, subst (λ p. IsEmptyFile 4096 p) one none.2)

-- ---- what the next opening finds

module _ {D : Type 0} {g : Ghosts D} (it : FileStore D g) (form : RowForm) (left : Image)
    (size : (state_of_store it).page_size ≡ 4096)
    (schema : schema_of it ≡ store_schema form) (unaltered : it.saved ≡ None)
    (may : (state_of_store it).may_leave left) where
  listed : (pages : PageMap) → schema_in it pages ≡ store_schema form
  listed pages = ap (λ s. schema_for s (schema_of it) pages) unaltered ∙ schema

  leaves_form : ∥ StoreOf form left ∥₁
  leaves_form = ∥∥₁_elim it.safe squash₁ (λ all.
      let found = all left may in
      ∥∥₁_map found.2 (λ ours.
      let file = subst (λ n. IsFile n (store_schema form) found.0) size
      (subst (λ s. IsFile (state_of_store it).page_size s found.0) (listed found.0) ours.file) in (
        found.0,
        subst (λ n. Recovers n left found.0) size found.1,
        file,
        file_lists form found.0 file,
      )))

  pub leaves_store : ∥ StoreIn left ∥₁
  leaves_store = ∥∥₁_map leaves_form (λ found. (form, found))

  -- it is found in the form that it has
  same_form : (other : RowForm) (pages : PageMap) → Recovers 4096 left pages → listed_form (catalog_in pages) ≡ other
      → form ≡ other
  same_form other pages found lists = same form other (λ differ. ∥∥₁_elim leaves_form (λ a _. absurd a) (λ store.
      differ (sym store.3
      ∙ ap (λ p. listed_form (catalog_in p)) (recovers_once 4096 left store.0 pages store.1 found) ∙ lists)))
    where
      same : (one two : RowForm) → ((one ≡ two → ⊥) → ⊥) → one ≡ two
      same Plain Plain never = refl
      same Plain Chained never = absurd (never (λ e. cc))
      same Chained Plain never = absurd (never (λ e. cc))
      same Chained Chained never = refl

  pub found_again : (v : View) → IsFound left v
      → (db : Trees) × recovers it db × HasCommitted v db
  found_again v is = again is.found
    where
      again : ReadsAs left v ⊎ (IsUnmade v × (stored_form v ≡ Chained) × ∥ IsUnstarted left ∥₁ × (StoreIn left → ⊥))
          → (db : Trees) × recovers it db × HasCommitted v db
      again (inr none) = absurd (∥∥₁_elim leaves_store (λ a _. absurd a) none.3)
      again (inl held) =
          let recovered : Recovers (state_of_store it).page_size left held.0 =
          subst (λ n. Recovers n left held.0) (sym size) held.1 in
          let one : stored_form v ≡ form = sym (same_form (stored_form v) held.0 held.1 held.4) in
          let same : tables_in (stored_form v) held.0 ≡ reading it held.0 =
          ap (λ f. tables_in f held.0) one ∙ ap₂ (λ n s. file_trees n s held.0) (sym size) (sym (listed held.0)) in (
            reading it held.0,
            (left, held.0, may, ∣ recovered ∣₁, refl),
            (held.2 ∙ ap (λ (t : Trees). t 0) same, held.3 ∙ ap (λ (t : Trees). t 1) same),
          )
