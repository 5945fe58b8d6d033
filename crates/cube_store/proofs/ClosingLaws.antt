-- What the files of a closed store hold.
use Rattle.std.proofs.Common.{◌≡◌, IsTrue, subst, sym, ap, ◌∙◌, ℕ, List}
use Rattle.sqlite_disk.specs.declared.Disk.{Ghosts}
use Rattle.sqlite_wal.specs.Recovery.{Image}
use Rattle.sqlite_wal.specs.Files.{seen_image, outcomes}
use Rattle.sqlite_wal.specs.Reads.{AreClean}
use Rattle.sqlite_wal.proofs.LogLemmas.{SeenMayStay}
use Rattle.sqlite_wal.proofs.StateLemmas.{clean_of}
use Rattle.sqlite_pool.proofs.StateLemmas.{settled, seen_may_be_left, clean_is, may_leave_is, file_alone}
use Rattle.sqlite_trees.specs.View.{View, IsClean}
use Rattle.sqlite_trees.proofs.Doubt.{no_doubt}
use Rattle.sqlite_store.specs.declared.store.FileStore.{FileStore}
use Rattle.sqlite_store.specs.FileStore.{state, view, files, schema_in, HasSpilled}
use Rattle.sqlite_store.specs.Laws.{reads_committed}
use Rattle.cube_store.specs.State.{stored_in, noted_in, stored_form, Holds, IsStore}
use Rattle.cube_store.specs.Closing.{ReadsLast, IsCopied, IsEmptied, LeavesOneFile}

module _ {D : Type 0} {g : Ghosts D} (it : FileStore D g) (stays : SeenMayStay g)
    (is_open : IsTrue (view it).is_open) where
  reads-last : (left : Image) → (state it).may_leave left → ReadsLast it left
  reads-last left may = ((settled it.pool stays is_open).durable left may, reads_committed it is_open)

  pub is-copied : (was : FileStore D g) → view it ≡ view was
      → (IsTrue (view was).is_open → IsStore (view was) (noted_in (view was))) → IsCopied was it
  is-copied was same store =
      let was_open : IsTrue (view was).is_open = subst (λ (v : View). IsTrue v.is_open) same is_open in
      record {
        is_open = is_open;
        same = same;
        holds = subst (λ (v : View). Holds (stored_form (view was)) v.committed (stored_in (view was)) (noted_in (view was))) (sym same)
            (store was_open).holds;
        now = reads-last (seen_image g (files it).0 (files it).1)
            (seen_may_be_left it.pool stays (clean_of (state it) is_open));
        crash = reads-last;
      }

module _ {D : Type 0} {g : Ghosts D} (was it : FileStore D g) (stays : SeenMayStay g) where
  leaves-one-at : (copied : IsCopied was it) → IsEmptied was it
      → ((left : Image) → outcomes g (files it).0 (files it).1 left → (state it).may_leave left)
      → LeavesOneFile was (files it).0 (files it).1
  leaves-one-at copied emptied may =
      let alone = λ (none : HasSpilled was → ⊥) (db : List ℕ) (left : g.may_leave (files it).1 db).
      file_alone it.pool stays copied.is_open (emptied none) (record { log = g.seen (files it).0; db = db })
      (may _ (stays _, left)) in
      record {
        size = (state it).page_size;
        schema = schema_in it (state it).committed;
        pages = (state it).committed;
        holds = subst (λ (v : View). Holds (stored_form (view was)) v.committed (stored_in (view was)) (noted_in (view was)))
            copied.same copied.holds;
        reads = copied.now.1 ∙ ap (λ (v : View). v.committed) copied.same;
        now = copied.now.0;
        crash = λ left out. (copied.crash left (may left out)).0;
        alone = λ none. alone none _ (stays _);
        alone_after = alone;
      }

  pub leaves-one : (log db : D) → (log, db) ≡ files it → (IsClean (view it) → IsCopied was it) → IsEmptied was it
      → AreClean g log db → LeavesOneFile was log db
  leaves-one log db is copied emptied clean =
      let honest : AreClean g (files it).0 (files it).1 = subst (λ (f : D × D). AreClean g f.0 f.1) is clean in
      let copy = copied (no_doubt _ (clean_is it.pool ∙ honest)) in
      subst (λ (f : D × D). LeavesOneFile was f.0 f.1) (sym is)
      (leaves-one-at copy emptied (λ left out. may_leave_is it.pool left honest out))
