use Rattle.cube_build.proofs.ShardLedgerLaws.{SettledTo}
use Rattle.cube_build.proofs.sharded.settle_in_turn.Given as goal

abbrev pub invariant-loop-shard : goal.invariant-loop-shard
invariant-loop-shard l = SettledTo l.initial.shards l.shards l.shard-index
