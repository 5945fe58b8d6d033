-- What is found in a store's two files.
use Rattle.std.specs.Prelude.{◌≡◌, ◌⊎◌, ◌^◌, ℕ, Bool, if◌then◌else◌, List, [], ◌∷◌, codes, length}
use Rattle.std.specs.Prelude.{Option, Some, None, IsTrue}
use Rattle.std.specs.List.{list_any}
use Rattle.sqlite_disk.specs.Disk.{Holds}
use Rattle.sqlite_disk.specs.declared.Disk.{Ghosts}
use Rattle.sqlite_disk.specs.declared.files.Files.{Files}
use Rattle.sqlite_value.specs.declared.value.Value.TheVariants.{Text}
use Rattle.sqlite_value.specs.Order.{Row}
use Rattle.sqlite_pool.specs.File.{in_use}
use Rattle.sqlite_wal.specs.Recovery.{Image}
use Rattle.sqlite_wal.specs.Files.{seen_image}
use Rattle.sqlite_wal.specs.Reads.{AreClean}
use Rattle.sqlite_pages.specs.PageMap.{PageMap}
use Rattle.sqlite_pool.specs.Opening.{IsBlankFile}
use Rattle.sqlite_pool.specs.Stored.{Recovers}
use Rattle.sqlite_trees.specs.declared.store.Shape.TheVariants.{Table}
use Rattle.sqlite_trees.specs.Tree.{Trees}
use Rattle.sqlite_trees.specs.View.{View}
use Rattle.sqlite_store.specs.declared.catalog.Wanted.{Wanted}
use Rattle.sqlite_store.specs.Catalog.{describes}
use Rattle.sqlite_store.specs.Db.{IsFile, rows_at}
use Rattle.sqlite_store.specs.Listing.{file_trees}
use Rattle.sqlite_store.specs.Opening.{IsEmptyFile}
use Rattle.cube_store.specs.declared.form.RowForm.{RowForm}
use Rattle.cube_store.specs.declared.form.RowForm.TheVariants.{Plain, Chained}
use Rattle.cube_store.specs.State.{HasTables, IsUnmade, stored_form}

-- The text of the table of changes whose rows have digests (this project's choice).
abbrev pub digests_text : List ℕ
digests_text =
    codes "CREATE TABLE changes(number INTEGER PRIMARY KEY, source INTEGER NOT NULL, record BLOB NOT NULL, digest BLOB NOT NULL) STRICT"

-- The table of changes, by its text. The bit of a column that no row has tells the forms apart
-- (this project's choice).
abbrev pub changes_table : RowForm → Wanted
changes_table Plain = record {
  shape = Table;
  reals = 0;
  row = Text (codes "table") ∷ Text (codes "changes") ∷ Text (codes "changes")
      ∷ Text
      (codes "CREATE TABLE changes(number INTEGER PRIMARY KEY, source INTEGER NOT NULL, record BLOB NOT NULL) STRICT")
      ∷ [];
}
changes_table Chained = record {
  shape = Table;
  reals = 2 ^ 63;
  row = Text (codes "table") ∷ Text (codes "changes") ∷ Text (codes "changes")
      ∷ Text digests_text ∷ [];
}

-- The table of the notes on feeds, by its text (this project's choice).
abbrev pub feeds_table : Wanted
feeds_table = record {
  shape = Table;
  reals = 0;
  row = Text (codes "table") ∷ Text (codes "feeds") ∷ Text (codes "feeds")
      ∷ Text
      (codes "CREATE TABLE feeds(source INTEGER PRIMARY KEY, length INTEGER NOT NULL, digest BLOB NOT NULL) STRICT")
      ∷ [];
}

-- A store's schema is these two tables, and nothing else (this project's choice).
abbrev pub store_schema : RowForm → List Wanted
store_schema form = changes_table form ∷ feeds_table ∷ []

-- One of the rows of a file's list of tables is that of the table of changes with digests
-- (this project's choice).
abbrev pub list_digests : List Row → Bool
list_digests rows = list_any (λ row. describes (changes_table Chained) row) rows

-- Which form the table of changes has in a file with these rows in its list of tables
-- (this project's choice).
abbrev pub listed_form : List Row → RowForm
listed_form rows = if list_digests rows then Chained else Plain

-- The same of a list that has a row, of which one without a row tells nothing
-- (this project's choice).
abbrev pub form_told : List Row → Option RowForm
form_told [] = None
form_told (row ∷ rows) = Some (listed_form (row ∷ rows))

-- The list of tables in the pages of a file (SQLite's "Database File Format").
abbrev pub catalog_in : PageMap → List Row
catalog_in pages = rows_at 4096 (in_use 4096 pages) Table 1

-- The tables in the pages of a store's file (this project's choice).
abbrev pub tables_in : RowForm → PageMap → Trees
tables_in form pages = file_trees 4096 (store_schema form) pages

-- The files recover to sound pages that list these two tables, that of changes in this form, and no
-- other table or index (this project's choice).
abbrev pub StoreOf : RowForm → Image → Type 0
StoreOf form image =
    (pages : PageMap) × Recovers 4096 image pages × IsFile 4096 (store_schema form) pages
    × (listed_form (catalog_in pages) ≡ form)

-- They do in one of the two forms (this project's choice).
abbrev pub StoreIn : Image → Type 0
StoreIn image = (form : RowForm) × StoreOf form image

-- The files recover to pages whose tables, by the schema of this form, are what the last commit of
-- a store has (this project's choice).
abbrev pub HasTablesOf : RowForm → Image → View → Type 0
HasTablesOf form image v = (pages : PageMap) × Recovers 4096 image pages
    × (v.committed 0 ≡ tables_in form pages 0) × (v.committed 1 ≡ tables_in form pages 1)

-- The files recover to pages whose list of tables tells this form, or has no row,
-- before a look and after it (this project's choice).
pub record HasLooked (old new : Image) (told : Option RowForm) : Type 0 where
  pub pages : PageMap
  pub found : Recovers 4096 old pages
  pub again : Recovers 4096 new pages
  pub lists : form_told (catalog_in pages) ≡ told

-- A store of this form is open on what the files hold (this project's choice).
pub record IsFoundAs (form : RowForm) (image : Image) (v : View) : Type 0 where
  pub is_open : IsTrue v.is_open
  pub tables : HasTables v
  pub of_form : stored_form v ≡ form
  pub reads : HasTablesOf form image v

-- The files recover to pages whose tables are what the last commit of a store has, in the form that
-- they list (this project's choice).
abbrev pub ReadsAs : Image → View → Type 0
ReadsAs image v = (pages : PageMap) × Recovers 4096 image pages
    × (v.committed 0 ≡ tables_in (stored_form v) pages 0)
    × (v.committed 1 ≡ tables_in (stored_form v) pages 1)
    × (listed_form (catalog_in pages) ≡ stored_form v)

-- The bytes 5 to 16 of the log that a making begins, which no other log of SQLite has:
-- the format's version, pages of 4096 bytes, and 2^32 - 1 checkpoints (SQLite's WAL file format).
abbrev pub making_mark : List ℕ
making_mark = 0 ∷ 45 ∷ 226 ∷ 24 ∷ 0 ∷ 0 ∷ 16 ∷ 0 ∷ 255 ∷ 255 ∷ 255 ∷ 255 ∷ []

-- A log begins as a making's does (this project's choice).
abbrev pub BeginsMaking : List ℕ → Type 0
BeginsMaking log = Holds log 4 making_mark

-- The file is empty; or a making was cut short before its first page was whole,
-- of which there are the first bytes beside the log that it began (this project's choice).
abbrev pub IsBegun : Image → Type 0
IsBegun image = (length image.db ≡ 0) ⊎ (IsBlankFile 4096 image × BeginsMaking image.log)

-- Files that hold no database are empty, or what a making began (this project's choice).
abbrev pub IsBegunIfBlank : Image → Type 0
IsBegunIfBlank image = IsBlankFile 4096 image → IsBegun image

-- The files recover to a sound database without a table,
-- as a making leaves that was cut short behind its first page (this project's choice).
abbrev pub HasNoTable : Image → Type 0
HasNoTable image = (pages : PageMap) × Recovers 4096 image pages × IsEmptyFile 4096 pages

-- The files hold no database, or one without a table (this project's choice).
abbrev pub HoldsNothing : Image → Type 0
HoldsNothing image = IsBlankFile 4096 image ⊎ HasNoTable image

-- The files held nothing, or what a making that was cut short leaves (this project's choice).
abbrev pub IsUnstarted : Image → Type 0
IsUnstarted image = IsBegun image ⊎ HasNoTable image

-- A store is open on what the files hold; or it has no row and is of the form with digests,
-- and the files held nothing or what a making that was cut short leaves (this project's choice).
pub record IsFound (image : Image) (v : View) : Type 0 where
  pub is_open : IsTrue v.is_open
  pub tables : HasTables v
  pub found : ReadsAs image v ⊎ (IsUnmade v × (stored_form v ≡ Chained) × ∥ IsUnstarted image ∥₁
      × (StoreIn image → ⊥))

-- A store is open on what the files hold (this project's choice).
pub record IsFoundMade (image : Image) (v : View) : Type 0 where
  pub is_open : IsTrue v.is_open
  pub tables : HasTables v
  pub reads : ReadsAs image v

module _ {D : Type 0} (g : Ghosts D) where
  -- What reads of two files give (this project's choice).
  abbrev pub seen_in : Files D → Image
  seen_in files = seen_image g files.log files.db

  -- No wrong answer of two files was taken as true (SQLite's readings of a disk).
  abbrev pub AreHonest : Files D → Type 0
  AreHonest files = AreClean g files.log files.db

  -- Two files may be read and written (this project's choice).
  abbrev pub AreBothUsable : Files D → Type 0
  AreBothUsable files = IsTrue (g.is_usable files.log) × IsTrue (g.is_usable files.db)
