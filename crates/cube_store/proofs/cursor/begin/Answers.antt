use Rattle.std.proofs.lemmas.Result.{on_ok_weaker, IfErr-weaker}
use Rattle.sqlite_disk.specs.Disk.{MoreFaults}
use Rattle.cube_store.proofs.ReadingLaws as laws
use Rattle.cube_store.proofs.cursor.begin.Goals as goal

pub returns-clause-ok : goal.returns-clause-ok
returns-clause-ok g c =
    on_ok_weaker c.seek.result (λ h clean. laws.begins (g.S.Store.view c.args.store.now)
    (g.S.Store.view c.seek.new.self) c.args.tree c.clear.new.self c.clear.ensures (h clean)) c.seek.ensures.ok

pub returns-clause-cause : goal.returns-clause-cause
returns-clause-cause g c = λ clean. IfErr-weaker c.seek.result _ _
    (λ e h. laws.read_cause (g.S.Store.view c.args.store.now)
    (MoreFaults (g.S.Store.faults c.args.store.now) (g.S.Store.faults c.seek.new.self)) e h)
    (c.seek.ensures.cause clean)
