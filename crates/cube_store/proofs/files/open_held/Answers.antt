use Rattle.std.proofs.Common.{inl, inr}
use Rattle.std.proofs.Math.Logic.{∥∥₁_map}
use Rattle.std.proofs.lemmas.Result.{IfErr-weaker}
use Rattle.sqlite_wal.specs.Files.{seen_image}
use Rattle.sqlite_store.specs.FileStore.{view}
use Rattle.cube_store.proofs.FileLaws as laws
use Rattle.cube_store.proofs.files.open_held.Goals as goal

pub returns-in-Ok-None-default-clause-found : goal.returns-in-Ok-None-default-clause-found
returns-in-Ok-None-default-clause-found g c =
    let was = seen_image g.D.Disk c.args.files.log c.args.files.db in
    let left = c.in-Ok-None-default.files in
    let mid = seen_image g.D.Disk left.log left.db in
    laws.ok_four c.finish_first_page.result _ _ _ _ _ (λ it honest h form started clean.
    let looked = rw c.in-Ok-None-default.field-0-0-is at (c.in-Ok-None-default.ensures.seen (honest clean)) in
    record {
      is_open = (h clean).is_open;
      tables = (h clean).tables;
      found = inr (
        h clean,
        form,
        ∥∥₁_map (started clean) (λ none. inr (laws.no_table_before was mid looked none)),
        laws.none_is_no_store was mid looked,
      );
    }) c.finish_first_page.ensures.honest c.finish_first_page.ensures.made c.finish_first_page.ensures.form
    c.finish_first_page.ensures.started

pub returns-in-Ok-None-default-clause-accepts : goal.returns-in-Ok-None-default-clause-accepts
returns-in-Ok-None-default-clause-accepts g c =
    let was = seen_image g.D.Disk c.args.files.log c.args.files.db in
    let left = c.in-Ok-None-default.files in
    let mid = seen_image g.D.Disk left.log left.db in
    IfErr-weaker c.finish_first_page.result _ _ (λ e falls clean held.
    let looked = rw c.in-Ok-None-default.field-0-0-is at (c.in-Ok-None-default.ensures.seen (falls clean)) in
    absurd (laws.none_is_no_store was mid looked held)) c.finish_first_page.ensures.falls

pub returns-in-Ok-Some-default-clause-found : goal.returns-in-Ok-Some-default-clause-found
returns-in-Ok-Some-default-clause-found g c =
    let was = seen_image g.D.Disk c.args.files.log c.args.files.db in
    let left = c.in-Ok-Some-default.files in
    let mid = seen_image g.D.Disk left.log left.db in
    laws.ok_both c.open_store.result _ _ _ (λ it honest h clean.
    let looked = rw c.in-Ok-Some-default.field-0-0-is at (c.in-Ok-Some-default.ensures.seen (honest clean)) in
    let found = laws.found_before was mid c.in-Ok-Some-default.form looked (view it) (h clean) in
    record { is_open = found.is_open; tables = found.tables; found = inl found.reads })
    c.open_store.ensures.honest c.open_store.ensures.found

pub returns-in-Ok-Some-default-clause-accepts : goal.returns-in-Ok-Some-default-clause-accepts
returns-in-Ok-Some-default-clause-accepts g c =
    let was = seen_image g.D.Disk c.args.files.log c.args.files.db in
    let left = c.in-Ok-Some-default.files in
    let mid = seen_image g.D.Disk left.log left.db in
    laws.err_both c.open_store.result _ _ _ (λ e falls accepts clean held.
    let looked = rw c.in-Ok-Some-default.field-0-0-is at (c.in-Ok-Some-default.ensures.seen (falls clean)) in
    accepts clean (laws.store_after was mid c.in-Ok-Some-default.form looked held))
    c.open_store.ensures.falls c.open_store.ensures.accepts
