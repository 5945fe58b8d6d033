use Rattle.std.proofs.Common.{sym, subst}
use Rattle.std.proofs.lemmas.Result.{IfOk-weaker, IfErr-weaker}
use Rattle.sqlite_wal.specs.Files.{seen_image}
use Rattle.cube_store.specs.Found.{StoreIn, HasLooked}
use Rattle.cube_store.proofs.FileLaws as laws
use Rattle.cube_store.proofs.files.look.Goals as goal

pub returns-in-Ok-clause-seen : goal.returns-in-Ok-clause-seen
returns-in-Ok-clause-seen g c =
    let now = c.begin_well.new.files in
    let was = c.args.files in
    IfOk-weaker c.read_form.result _ _ (λ r seen clean.
    subst (λ i. HasLooked i (seen_image g.D.Disk r.1.log r.1.db) r.0) (laws.same_image c.in-Ok.fresh now.log now.db was.log
    was.db c.in-Ok.ensures.files c.begin_well.ensures.log c.begin_well.ensures.db) (seen clean))
    c.read_form.ensures.seen

pub returns-in-Ok-clause-honest : goal.returns-in-Ok-clause-honest
returns-in-Ok-clause-honest g c =
    let now = c.begin_well.new.files in
    let was = c.args.files in
    IfOk-weaker c.read_form.result _ _ (λ r honest clean.
    laws.was_clean now.log now.db was.log was.db c.begin_well.ensures.log c.begin_well.ensures.db
    (laws.files_are_clean c.in-Ok.fresh now.log now.db c.in-Ok.ensures.files (honest clean)))
    c.read_form.ensures.honest

pub returns-in-Ok-clause-accepts : goal.returns-in-Ok-clause-accepts
returns-in-Ok-clause-accepts g c =
    let now = c.begin_well.new.files in
    let was = c.args.files in
    IfErr-weaker c.read_form.result _ _ (λ e accepts clean found.
    accepts clean (subst StoreIn (sym (laws.same_image c.in-Ok.fresh now.log now.db was.log was.db
    c.in-Ok.ensures.files c.begin_well.ensures.log c.begin_well.ensures.db)) found)) c.read_form.ensures.accepts
