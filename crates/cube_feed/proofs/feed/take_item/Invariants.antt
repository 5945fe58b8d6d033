use Rattle.std.proofs.Common.{◌≡◌, ◌≤◌}
use Rattle.cube_core.specs.Shard.{whole_feed}
use Rattle.cube_feed.specs.Feed.{after_header}
use Rattle.cube_feed.proofs.FeedLaws.{StillComes}
use Rattle.cube_feed.proofs.feed.take_item.Given as goal

abbrev pub invariant-loop-before : goal.invariant-loop-before
invariant-loop-before g l =
    (l.number ≤ l.before)
    × (l.rows.columns ≡ l.initial.rows.columns)
    × StillComes (after_header l.schema l.initial.rows.columns l.number l.initial.rows.text.left)
    (after_header l.schema l.initial.rows.columns l.before l.rows.text.left)
    × (l.schema.shard ≡ whole_feed → l.before ≡ l.number)
