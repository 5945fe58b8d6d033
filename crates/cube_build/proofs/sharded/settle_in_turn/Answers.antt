use Rattle.std.proofs.Common.{rules}
use Rattle.cube_build.proofs.ShardLedgerLaws.{SettleAlike-all, SettledTo-more, SettledTo-none}
use Rattle.cube_build.proofs.sharded.settle_in_turn.Goals as goal

pub loop-shard-init : goal.loop-shard-init
loop-shard-init c = SettledTo-none c.args.shards.now

pub loop-shard-preserved : goal.loop-shard-preserved
loop-shard-preserved c =
    let loop = c.loop-shard in
    SettledTo-more c.args.shards.now loop.shards loop.shard-index c.shard-item.result c.settle.new.self (search rules)
    c.settle.ensures loop.invariant

pub returns : goal.returns
returns c =
    SettleAlike-all c.args.shards.now c.loop-shard.shards c.loop-shard.shard-index (search rules)
    c.loop-shard.invariant
