use Rattle.std.proofs.Common.{◌≡◌, ◌∙◌, length, map, sym}
use Rattle.std.proofs.lemmas.List.{length-map}
use Rattle.cube_build.proofs.ShardingLaws.{taken-sharded}
use Rattle.cube_build.proofs.sharding.take_in_shards.Goals as goal

pub returns-in-Ok-finished-clause-ok : goal.returns-in-Ok-finished-clause-ok
returns-in-Ok-finished-clause-ok g c =
    let sources = map g.R.Read.remaining c.args.readers.items in
    let only : length sources ≡ 1 =
    length-map c.args.readers.items g.R.Read.remaining ∙ sym c.args.readers.ok.0 ∙ c.requires.one in
    taken-sharded c.args.schema.now c.args.conditions.now sources c.in-Ok.sharded.items
    c.in_ok-gatherers.gatherers.items c.swap_remove.result c.in-Ok-finished.part only c.in_ok-gatherers.ensures.good
    c.in-Ok.ensures c.in_ok-gatherers.ensures.taken c.swap_remove.ensures.value c.in-Ok-finished.ensures.counts
    c.in-Ok-finished.ensures.inlets
