use Rattle.cube_build.proofs.counter.Counter.apply.Goals as goal

pub returns-in-Err-clause-counts : goal.returns-in-Err-clause-counts
returns-in-Err-clause-counts g c = rw (← c.in-Err.is) at c.refuse.ensures.counts

pub returns-in-Ok-Insert-clause-counts : goal.returns-in-Ok-Insert-clause-counts
returns-in-Ok-Insert-clause-counts g c =
    rw (← c.in-Ok-Insert.field-0-is, ← c.in-Ok-Insert.is) at c.count.ensures.counts
