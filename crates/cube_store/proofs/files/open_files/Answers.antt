use Rattle.std.proofs.Common.{inl, inr, sym, subst}
use Rattle.std.proofs.lemmas.Result.{IfOk-weaker, IfErr-weaker}
use Rattle.sqlite_pool.specs.Opening.{IsBlankFile}
use Rattle.sqlite_wal.specs.Files.{seen_image}
use Rattle.sqlite_store.specs.FileStore.{view}
use Rattle.cube_store.specs.Found.{StoreIn, IsBegun, IsFound}
use Rattle.cube_store.proofs.FileLaws as laws
use Rattle.cube_store.proofs.files.open_files.Goals as goal

pub returns-in-Ok-true-clause-found : goal.returns-in-Ok-true-clause-found
returns-in-Ok-true-clause-found g c =
    let now = c.hold_none.new.files in
    let was = c.args.files in
    let same = laws.same_seen now.log now.db was.log was.db c.hold_none.ensures.log c.hold_none.ensures.db in
    laws.ok_four c.finish_begun.result _ _ _ _ _ (λ it honest h form begun clean.
    let blank = (c.in-Ok-true.ensures.ok (honest clean)).0 c.in-Ok-true.field-0-test in
    let left = subst IsBegun same (begun clean (subst (IsBlankFile 4096) (sym same) blank)) in
    record {
      is_open = (h clean).is_open;
      tables = (h clean).tables;
      found = inr (h clean, form, ∣ inl left ∣₁, λ held. laws.not_blank_store (seen_image g.D.Disk was.log was.db) held blank);
    }) c.finish_begun.ensures.honest c.finish_begun.ensures.made c.finish_begun.ensures.form c.finish_begun.ensures.begun

pub returns-in-Ok-true-clause-accepts : goal.returns-in-Ok-true-clause-accepts
returns-in-Ok-true-clause-accepts g c =
    let now = c.hold_none.new.files in
    let was = c.args.files in
    IfErr-weaker c.finish_begun.result _ _ (λ e falls clean held.
    let blank = (c.in-Ok-true.ensures.ok (falls clean)).0 c.in-Ok-true.field-0-test in
    absurd (laws.not_blank_store (seen_image g.D.Disk was.log was.db) held blank)) c.finish_begun.ensures.falls

pub returns-in-Ok-false-clause-found : goal.returns-in-Ok-false-clause-found
returns-in-Ok-false-clause-found g c =
    let now = c.hold_none.new.files in
    let was = c.args.files in
    IfOk-weaker c.open_held.result _ _ (λ it found clean. subst (λ i. IsFound i (view it))
    (laws.same_seen now.log now.db was.log was.db c.hold_none.ensures.log c.hold_none.ensures.db) (found clean))
    c.open_held.ensures.found

pub returns-in-Ok-false-clause-accepts : goal.returns-in-Ok-false-clause-accepts
returns-in-Ok-false-clause-accepts g c =
    let now = c.hold_none.new.files in
    let was = c.args.files in
    IfErr-weaker c.open_held.result _ _ (λ e accepts clean held. accepts clean (subst StoreIn
    (sym (laws.same_seen now.log now.db was.log was.db c.hold_none.ensures.log c.hold_none.ensures.db)) held))
    c.open_held.ensures.accepts
