use Rattle.cube_store.proofs.ClosingLaws as laws
use Rattle.cube_store.proofs.starting.close.Goals as goal

pub returns-in-Ok-clause-left : goal.returns-in-Ok-clause-left
returns-in-Ok-clause-left g c =
    laws.leaves-one _ c.in-Ok.store g.met.D.Disk.seen_may_stay _ _ c.close.ensures c.in-Ok.ensures.copied
    c.in-Ok.ensures.emptied
