use Rattle.std.proofs.Common.{◌≡◌, ◌++◌, length, map}
use Rattle.std.specs.List.{All}
use Rattle.cube_ledger.specs.Ledger.{LedgerView}
use Rattle.cube_build.specs.Sharded.{ShardView}
use Rattle.cube_build.proofs.sharded.ledgers_of.Given as goal

abbrev pub invariant-loop-shard : goal.invariant-loop-shard
invariant-loop-shard l =
    (l.ledgers.items ≡ map (λ (shard : ShardView). shard.ledger) l.yielded)
    × All (λ (ledger : LedgerView). length ledger.accounts ≡ 1) l.ledgers.items
    × (l.yielded ++ l.shard-iterator.rest.items ≡ l.fn.shards.items)
