-- What a store leaves where it is closed.
use Rattle.std.specs.Prelude.{◌≡◌, ℕ, List, [], IsTrue}
use Rattle.sqlite_disk.specs.declared.Disk.{Ghosts}
use Rattle.sqlite_disk.specs.Disk.{MoreFaults}
use Rattle.sqlite_wal.specs.Recovery.{Image}
use Rattle.sqlite_wal.specs.Files.{seen_image, outcomes}
use Rattle.sqlite_pages.specs.PageMap.{PageMap}
use Rattle.sqlite_pool.specs.Stored.{Recovers}
use Rattle.sqlite_trees.specs.Tree.{Trees}
use Rattle.sqlite_trees.specs.View.{IsClean}
use Rattle.sqlite_store.specs.declared.catalog.Wanted.{Wanted}
use Rattle.sqlite_store.specs.declared.store.FileStore.{FileStore}
use Rattle.sqlite_store.specs.FileStore.{state, view, files, recovers, faults, reading, log_frames}
use Rattle.sqlite_store.specs.FileStore.{HasSpilled}
use Rattle.sqlite_store.specs.Listing.{file_trees}
use Rattle.cube_store.specs.State.{stored_in, noted_in, stored_form, Holds}
use Rattle.cube_store.specs.declared.store_fault.CallFault.{CallFault}
use Rattle.cube_store.specs.Codes.{HasReason}

module _ {D : Type 0} {g : Ghosts D} where
  -- Recovery finds in the files the pages that a store committed last,
  -- which its page size and its schema read as its tables (this project's choice).
  abbrev pub ReadsLast : FileStore D g → Image → Type 0
  ReadsLast it image =
      Recovers (state it).page_size image (state it).committed
      × (reading it (state it).committed ≡ (view it).committed)

  -- A store shows what it showed, and its files hold the changes and the notes of the last commit,
  -- byte for byte, now as after each crash (this project's choice).
  pub record IsCopied (was it : FileStore D g) : Type 0 where
    pub is_open : IsTrue (view it).is_open
    pub same : view it ≡ view was
    pub holds : Holds (stored_form (view was)) (view it).committed (stored_in (view was))
        (noted_in (view was))
    pub now : ReadsLast it (seen_image g (files it).0 (files it).1)
    pub crash : (left : Image) → (state it).may_leave left → ReadsLast it left

  -- No frame is left in the log, unless it had some of changes that aren't committed
  -- (this project's choice).
  abbrev pub IsEmptied : FileStore D g → FileStore D g → Type 0
  IsEmptied was it = (HasSpilled was → ⊥) → log_frames it ≡ 0

  -- A store became another one, which a call has told as failed: a crash leaves no more than
  -- before, and the failure has a cause (this project's choice).
  pub record IsUnharmed (was it : FileStore D g) (fault : CallFault) : Type 0 where
    pub crash : (db : Trees) → recovers it db → recovers was db
    pub cause : IsClean (view it)
        → HasReason (view was) (MoreFaults (faults was) (faults it)) fault

  -- Recovery finds in two files, as they are and after each crash, the pages that a store committed
  -- last, which read as its tables; and in the database file alone, without the log, unless the log
  -- had frames of changes that aren't committed (this project's choice).
  pub record LeavesOneFile (was : FileStore D g) (log db : D) : Type 0 where
    pub size : ℕ
    pub schema : List Wanted
    pub pages : PageMap
    pub holds : Holds (stored_form (view was)) (view was).committed (stored_in (view was))
        (noted_in (view was))
    pub reads : file_trees size schema pages ≡ (view was).committed
    pub now : Recovers size (seen_image g log db) pages
    pub crash : (left : Image) → outcomes g log db left → Recovers size left pages
    pub alone : (HasSpilled was → ⊥) → Recovers size (record { log = []; db = g.seen db }) pages
    pub alone_after : (HasSpilled was → ⊥) → (left : List ℕ) → g.may_leave db left
        → Recovers size (record { log = []; db = left }) pages
