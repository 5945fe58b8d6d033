use Rattle.std.proofs.Common.{◌≡◌, length}
use Rattle.std.specs.List.{All}
use Rattle.cube_build.specs.Sharded.{IsNewShard}
use Rattle.cube_build.proofs.sharded.new_shards.Given as goal

abbrev pub invariant-loop : goal.invariant-loop
invariant-loop l = (length l.shards.items ≡ l.counter) × All (IsNewShard l.schema) l.shards.items
