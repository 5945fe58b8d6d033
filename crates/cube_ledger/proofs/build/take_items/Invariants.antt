use Rattle.std.proofs.Common.{◌-◌}
use Rattle.cube_ledger.proofs.FeedLaws.{HasTaken}
use Rattle.cube_ledger.proofs.build.take_items.Given as goal

abbrev pub invariant-loop-item : goal.invariant-loop-item
invariant-loop-item g l = HasTaken l.initial.feed.to_come l.source l.initial.ledger l.feed l.ledger

abbrev pub decreases-loop-item : goal.decreases-loop-item
decreases-loop-item g l = l.feed.schema.max_records - l.feed.number
