use Rattle.std.proofs.Common.{false, refl}
use Rattle.cube_build.proofs.ShardingLaws.{new-came, new-sharded}
use Rattle.cube_build.proofs.sharded.ShardedLedger.new.Goals as goal

pub invariant_of-result : goal.invariant_of-result
invariant_of-result g c =
    new-sharded c.args.schema.now c.args.count c.in_ok-fresh.fresh c.in_ok-shards.shards.items c.in_ok-shards.ensures
    c.in_ok-fresh.ensures.schema c.in_ok-fresh.ensures.accounts c.requires.some c.requires.few

pub returns : goal.returns
returns g c = record {
  schema = c.in_ok-fresh.ensures.schema;
  came = new-came c.args.schema.now c.args.count c.in_ok-shards.shards.items (record {
    schema = c.in_ok-fresh.fresh.schema;
    shards = c.in_ok-shards.shards.items;
    last = 0;
    is_spent = false;
  }) c.in_ok-shards.ensures refl refl;
}
