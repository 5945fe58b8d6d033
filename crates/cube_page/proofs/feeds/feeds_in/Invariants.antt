use Rattle.std.proofs.Common.{◌≡◌, ◌++◌, drop, map}
use Rattle.cube_page.specs.Page.{feeds_in}
use Rattle.cube_page.proofs.feeds.feeds_in.Given as goal

abbrev pub invariant-loop-length : goal.invariant-loop-length
invariant-loop-length l =
    map (λ feed. feed.now) l.feeds.items ++ feeds_in (drop l.length-index l.lengths) l.rest
    ≡ feeds_in l.lengths l.bytes
