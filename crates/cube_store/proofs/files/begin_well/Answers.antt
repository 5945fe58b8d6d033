use Rattle.std.proofs.Common.{◌≡◌, refl, sym, subst, ◌∙◌}
use Rattle.sqlite_wal.specs.PageSize.{bytes_of}
use Rattle.sqlite_wal.specs.Recovery as raw
use Rattle.sqlite_wal.specs.Files.{seen_image}
use Rattle.cube_store.proofs.CodeLaws as codes
use Rattle.cube_store.proofs.FileLaws as laws
use Rattle.cube_store.proofs.files.begin_well.Goals as goal

pub returns-in-Ok-clause-ok : goal.returns-in-Ok-clause-ok
returns-in-Ok-clause-ok g c = λ clean found.
    let it = seen_image g.D.Disk c.args.files.now.log c.args.files.now.db in
    let begin = laws.begin_is it found in
    let size : bytes_of c.page_size.result ≡ 4096 = c.page_size.ensures in
    let head = c.in-Ok.ensures.value clean begin.0 begin.1
    (subst (λ n. raw.Recovers n it begin.0) (sym size) begin.2) begin.3 (begin.4 ∙ sym size) in
    rw (head.0 ∙ begin.5) refl

pub returns-in-Err-clause-cause : goal.returns-in-Err-clause-cause
returns-in-Err-clause-cause g c = λ clean found.
    let it = seen_image g.D.Disk c.args.files.now.log c.args.files.now.db in
    rw c.from.ensures (codes.first_look_fails _ _ _ _ c.in-Err.error
    (λ never. laws.log_is_read it found (rw c.page_size.ensures at never)) (c.in-Err.ensures.cause.0 clean))
