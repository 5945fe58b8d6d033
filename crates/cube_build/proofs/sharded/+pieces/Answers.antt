use Rattle.cube_build.proofs.ShardLedgerLaws.{SettleAlike-append}
use Rattle.cube_build.proofs.sharded.+pieces.Goals as goal

pub settle_shards-returns-else-pieces-lt2 : goal.settle_shards-returns-else-pieces-lt2
settle_shards-returns-else-pieces-lt2 g t c =
    rw c.split_at_mut-first.ensures.value
    (SettleAlike-append _ _ _ _ c.settle_both.ensures.first c.settle_both.ensures.others)
