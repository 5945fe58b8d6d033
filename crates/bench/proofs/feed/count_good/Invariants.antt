use Rattle.std.proofs.Common.{◌-◌}
use Rattle.bench.proofs.feed.count_good.Given as goal

-- how many numbers of items are left
abbrev pub decreases-loop-item : goal.decreases-loop-item
decreases-loop-item l = l.feed.schema.max_records - l.feed.number
