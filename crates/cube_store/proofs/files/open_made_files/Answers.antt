use Rattle.sqlite_wal.specs.Files.{seen_image}
use Rattle.sqlite_store.specs.FileStore.{view}
use Rattle.cube_store.proofs.FileLaws as laws
use Rattle.cube_store.proofs.files.open_made_files.Goals as goal

pub returns-in-Ok-Some-default-clause-found : goal.returns-in-Ok-Some-default-clause-found
returns-in-Ok-Some-default-clause-found g c =
    let was = seen_image g.D.Disk c.args.files.log c.args.files.db in
    let left = c.in-Ok-Some-default.left in
    let mid = seen_image g.D.Disk left.log left.db in
    laws.ok_both c.open_store.result _ _ _ (λ it honest h clean.
    let looked = rw c.in-Ok-Some-default.field-0-0-is at (c.in-Ok-Some-default.ensures.seen (honest clean)) in
    laws.found_before was mid c.in-Ok-Some-default.form looked (view it) (h clean))
    c.open_store.ensures.honest c.open_store.ensures.found

pub returns-in-Ok-Some-default-clause-accepts : goal.returns-in-Ok-Some-default-clause-accepts
returns-in-Ok-Some-default-clause-accepts g c =
    let was = seen_image g.D.Disk c.args.files.log c.args.files.db in
    let left = c.in-Ok-Some-default.left in
    let mid = seen_image g.D.Disk left.log left.db in
    laws.err_both c.open_store.result _ _ _ (λ e falls accepts clean held.
    let looked = rw c.in-Ok-Some-default.field-0-0-is at (c.in-Ok-Some-default.ensures.seen (falls clean)) in
    accepts clean (laws.store_after was mid c.in-Ok-Some-default.form looked held))
    c.open_store.ensures.falls c.open_store.ensures.accepts

pub returns-in-Ok-None-default-clause-accepts : goal.returns-in-Ok-None-default-clause-accepts
returns-in-Ok-None-default-clause-accepts g c = λ clean held.
    let was = seen_image g.D.Disk c.args.files.log c.args.files.db in
    let left = c.in-Ok-None-default.left in
    let mid = seen_image g.D.Disk left.log left.db in
    let looked = rw c.in-Ok-None-default.field-0-0-is at (c.in-Ok-None-default.ensures.seen clean) in
    absurd (laws.none_is_no_store was mid looked held)
