use Rattle.std.proofs.Common.{map}
use Rattle.cube_build.proofs.TakenLaws.{taken-counted}
use Rattle.cube_build.proofs.counting.count_where.Goals as goal

pub returns-in-Ok-clause-ok : goal.returns-in-Ok-clause-ok
returns-in-Ok-clause-ok g c =
    taken-counted c.args.schema.now c.args.conditions.now (map g.R.Read.remaining c.args.readers.items)
    c.in_ok-gatherer.gatherer c.in-Ok.part c.in_ok-gatherer.ensures.counts c.in-Ok.ensures.counts
    c.in-Ok.ensures.inlets
