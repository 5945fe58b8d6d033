use Rattle.std.proofs.Common.{◌≡◌, ◌++◌, ℕ, List, take, drop}
use Rattle.cube_feed.specs.FeedBytes.{bounded, bounded_by}
use Rattle.cube_feed.proofs.feed_bytes.passed.Given as goal

abbrev pub invariant-loop-at : goal.invariant-loop-at
invariant-loop-at l = (rest : List ℕ) → bounded_by l.fn.bounds (l.bytes ++ rest)
    ≡ take l.at l.bytes
    ++ bounded l.bounds.delimiter l.bounds.most l.bounds.is_by_name l.place l.count (drop l.at l.bytes ++ rest)
