-- In which form a sound file lists the table of changes.
use Rattle.std.proofs.Common.{◌≡◌, ℕ, Bool, true, false, not, ◌&&◌, ◌||◌, ◌==◌, if◌then◌else◌, List, [], ◌∷◌, length}
use Rattle.std.proofs.Common.{Option, Some, None, true≢false, refl, sym, ap, ◌∙◌, arith, inl, inr, is_eq, Ordering, Less, Equal, Greater}
use Rattle.std.specs.Prelude.{IsSome, codes, slice_index}
use Rattle.std.specs.List.{list_any, list_all}
use Rattle.std.proofs.lemmas.Bool.{cases_Bool, and_parts}
use Rattle.sqlite_value.specs.declared.value.Value.{Value}
use Rattle.sqlite_value.specs.declared.value.Value.TheVariants.{Null, Int, Real, Text, Blob}
use Rattle.sqlite_value.specs.Order.{Row, column, bytes, value_cmp}
use Rattle.sqlite_value.proofs.OrderLemmas.{value_cmp_total}
use Rattle.sqlite_pages.specs.PageMap.{PageMap}
use Rattle.sqlite_pool.specs.File.{in_use, unlocked, IsSoundFile}
use Rattle.sqlite_pool.specs.FreeList.{live}
use Rattle.sqlite_pool.specs.Header.{lock_page}
use Rattle.sqlite_trees.specs.Sound.{same_name}
use Rattle.sqlite_trees.specs.declared.store.Shape.TheVariants.{Table}
use Rattle.sqlite_btree.proofs.StoredLemmas.{stored_root_live}
use Rattle.sqlite_store.specs.declared.catalog.Wanted.{Wanted}
use Rattle.sqlite_store.specs.Catalog.{same_value, describes, is_about, root_in, may_stand, is_near, has_no_pages}
use Rattle.sqlite_store.specs.Catalog.{is_well_formed}
use Rattle.sqlite_store.specs.Db.{rows_at, roots_of, IsFile}
use Rattle.sqlite_store.proofs.ObjectLemmas.{other_text}
use Rattle.cube_store.specs.declared.form.RowForm.{RowForm}
use Rattle.cube_store.specs.declared.form.RowForm.TheVariants.{Plain, Chained}
use Rattle.cube_store.specs.Found.{changes_table, feeds_table, store_schema, catalog_in, list_digests, listed_form, digests_text}

-- ---- no tree begins at page 0

none_of : {X : Type 0} (o : Option X) → (IsSome o → ⊥) → o ≡ None
none_of None never = refl
none_of (Some x) never = absurd (never refl)

either_none : {X : Type 0} (b c : Bool) (o : Option X) → o ≡ None
    → (if b then (if c then None else o) else None) ≡ None
either_none true true o none = refl
either_none true false o none = none
either_none false c o none = refl

no_page : (pages : PageMap) → IsSoundFile 4096 pages → in_use 4096 pages 0 ≡ None
unfolding in_use live unlocked
no_page pages sound =
    either_none _ (0 == lock_page 4096) (pages 0) (none_of (pages 0) (λ some. omega (arith, ((sound.counted 0).0 some).0)))

-- ---- a table that is there is described

or_parts : (x y : Bool) → (x || y) ≡ false → (x ≡ false) × (y ≡ false)
or_parts true y h = absurd (cc)
or_parts false y h = (refl, h)

no_root : (rows : List Row) (wanted : Wanted) → list_any (λ row. describes wanted row) rows ≡ false
    → root_in rows wanted ≡ 0
no_root [] wanted none = refl
no_root (row ∷ rows) wanted none =
    let parts = or_parts (describes wanted row) (list_any (λ r. describes wanted r) rows) none in
    rw parts.0 (no_root rows wanted parts.1)

first_root : (pages : PageMap) → slice_index (roots_of 4096 (store_schema Chained) pages) 0
    ≡ root_in (rows_at 4096 pages Table 1) (changes_table Chained)
unfolding roots_of
first_root pages = refl

digests_listed : (pages : PageMap) → IsFile 4096 (store_schema Chained) pages → list_digests (catalog_in pages) ≡ true
digests_listed pages file = elim (cases_Bool (list_digests (catalog_in pages))) [
  | inl listed ↦ listed
  | inr none ↦
      let live_page = stored_root_live (file.db.trees.kept 1).1.stored in
      let there = (file.db.trees.laid 1).nodes _ live_page in
      let root : slice_index (roots_of 4096 (store_schema Chained) (in_use 4096 pages)) 0 ≡ 0 =
      first_root (in_use 4096 pages) ∙ no_root (catalog_in pages) (changes_table Chained) none in
      absurd (let bad = sym there ∙ ap (in_use 4096 pages) root ∙ no_page pages file.sound in cc)
]

-- ---- where a table without digests is, none with them is described

equal_of : (o : Ordering) → is_eq o ≡ true → o ≡ Equal
equal_of Less h = absurd (cc)
equal_of Equal h = refl
equal_of Greater h = absurd (cc)

-- a value that is one text is no other
apart_texts : (value : Value) (one other : List ℕ) → same_value value (Text one) ≡ true → (Text one ≡ Text other → ⊥)
    → same_value value (Text other) ≡ false
apart_texts value one other same apart =
    ap is_eq (value_cmp_total.congr value (Text one) (Text other) (equal_of _ same)) ∙ (other_text (Text one) other refl apart).0

texts_apart : (one other : List ℕ) → (length one ≡ length other → ⊥) → Text one ≡ Text other → ⊥
texts_apart one other apart same = apart (ap (λ v. length (bytes v)) same)

-- what is one text isn't another value
is_the_text : (value : Value) (text : List ℕ) → same_value value (Text text) ≡ true → ((value ≡ Text text) → ⊥) → ⊥
unfolding value_cmp
is_the_text Null text same other = cc
is_the_text (Int n) text same other = cc
is_the_text (Real x) text same other = cc
is_the_text (Text t) text same other = let bad = (other_text (Text t) text refl other).0 in cc
is_the_text (Blob b) text same other = cc

describes_text : (wanted : Wanted) (row : Row) → describes wanted row ≡ true
    → (same_value (column row 2) (column wanted.row 1) ≡ true) × (same_value (column row 3) (column wanted.row 2) ≡ true)
    × (same_value (column row 5) (column wanted.row 3) ≡ true)
unfolding describes is_about
describes_text wanted row is =
    let last = and_parts _ _ is in
    let about = and_parts _ _ last.0 in
    let name = and_parts _ _ about.0 in (name.1, about.1, last.1)

not_described : (wanted : Wanted) (row : Row) → (describes wanted row ≡ true → ⊥) → describes wanted row ≡ false
not_described wanted row never = elim (cases_Bool (describes wanted row)) [
  | inl told ↦ absurd (never told)
  | inr none ↦ none
]

-- a row that isn't described, and is about one of the tables, may not stand
stuck : (one other pageless near far : Bool) → one ≡ false → other ≡ false → near ≡ true
    → (if one || (other || false) then true else (pageless && not (near || (far || false)))) ≡ true → ⊥
stuck true other pageless near far a b c stands = true≢false a
stuck false true pageless near far a b c stands = true≢false b
stuck false false pageless false far a b c stands = true≢false (sym c)
stuck false false true true far a b c stands = true≢false (sym stands)
stuck false false false true far a b c stands = true≢false (sym stands)

same_names : same_name (codes "changes") (codes "changes") ≡ true
unfolding same_name
same_names = refl

alone : (row : Row) → may_stand (store_schema Plain) row ≡ true → describes (changes_table Chained) row ≡ true → ⊥
unfolding may_stand
alone row stands is =
    let texts = describes_text (changes_table Chained) row is in
    let other = bytes (column (changes_table Plain).row 3) in
    let plain : describes (changes_table Plain) row ≡ false = not_described (changes_table Plain) row (λ told.
    let same : same_value (column row 5) (Text other) ≡ true = (describes_text (changes_table Plain) row told).2 in
    true≢false (sym same
    ∙ apart_texts (column row 5) digests_text other texts.2
    (texts_apart digests_text other (λ e. let bad : 124 ≡ 102 = e in omega (arith, bad))))) in
    let feeds : describes feeds_table row ≡ false = not_described feeds_table row (λ told.
    let same : same_value (column row 2) (Text (codes "feeds")) ≡ true = (describes_text feeds_table row told).0 in
    true≢false (sym same
    ∙ apart_texts (column row 2) (codes "changes") (codes "feeds") texts.0
    (texts_apart (codes "changes") (codes "feeds") (λ e. let bad : 7 ≡ 5 = e in omega (arith, bad))))) in
    is_the_text (column row 3) (codes "changes") texts.1 (λ same.
    let near : is_near (changes_table Plain) row ≡ true =
    ap (λ v. same_name (bytes v) (codes "changes")) same ∙ same_names in
    stuck (describes (changes_table Plain) row) (describes feeds_table row) (has_no_pages row)
    (is_near (changes_table Plain) row) (is_near feeds_table row) plain feeds near
    (and_parts (is_well_formed row) _ stands).1)

none_described : (rows : List Row) → list_all (may_stand (store_schema Plain)) rows ≡ true → list_digests rows ≡ false
none_described [] all = refl
none_described (row ∷ rows) all =
    let parts = and_parts (may_stand (store_schema Plain) row) (list_all (may_stand (store_schema Plain)) rows) all in
    rw (not_described (changes_table Chained) row (alone row parts.0)) (none_described rows parts.1)

-- ---- the form of a sound file

pub file_lists : (form : RowForm) (pages : PageMap) → IsFile 4096 (store_schema form) pages
    → listed_form (catalog_in pages) ≡ form
file_lists Plain pages file =
    let parts = and_parts _ _ (and_parts _ _ (and_parts _ _ file.db.known).0).0 in
    ap (λ b. if b then Chained else Plain) (none_described (catalog_in pages) parts.0)
file_lists Chained pages file = ap (λ b. if b then Chained else Plain) (digests_listed pages file)
