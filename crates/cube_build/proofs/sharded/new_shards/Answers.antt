use Rattle.std.proofs.Common.{◌+◌, ◌∙◌, ap}
use Rattle.std.proofs.lemmas.List.Elements.{All-push}
use Rattle.cube_rings.proofs.PlaceLaws.{length-one_more}
use Rattle.cube_build.specs.Sharded.{IsNewShard}
use Rattle.cube_build.proofs.sharded.new_shards.Goals as goal

pub loop-preserved : goal.loop-preserved
loop-preserved c =
    let was = c.loop.invariant in
    let shard = c.in_ok-new.field-0 in
    rw c.in_ok-push.ensures.items (
      length-one_more c.loop.shards.items shard ∙ ap (λ n. n + 1) was.0,
      All-push (IsNewShard c.args.schema.now) c.loop.shards.items shard was.1 c.in_ok-new.ensures,
    )
