use Rattle.std.proofs.lemmas.Result.{IfOk-weaker, IfErr-weaker}
use Rattle.sqlite_disk.specs.Disk.{MoreFaults}
use Rattle.cube_store.proofs.ReadingLaws as laws
use Rattle.cube_store.proofs.cursor.step.Goals as goal

pub returns-clause-ok : goal.returns-clause-ok
returns-clause-ok g c =
    IfOk-weaker c.next.result _ _ (λ found h clean. laws.passes (g.S.Store.view c.args.store.now)
    (g.S.Store.view c.next.new.self) c.next.new.row found (h clean)) c.next.ensures.ok

pub returns-clause-cause : goal.returns-clause-cause
returns-clause-cause g c = λ clean. IfErr-weaker c.next.result _ _
    (λ e h. laws.read_cause (g.S.Store.view c.args.store.now)
    (MoreFaults (g.S.Store.faults c.args.store.now) (g.S.Store.faults c.next.new.self)) e h)
    (c.next.ensures.cause clean)
