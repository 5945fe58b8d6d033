use Rattle.std.proofs.Common.{◌≡◌, ◌+◌, length, sum_by}
use Rattle.std.specs.List.{All}
use Rattle.cube_build.specs.CounterShares.{counter_sources}
use Rattle.cube_build.specs.Counting.{IsNewCounter}
use Rattle.cube_build.proofs.counter_shares.new_shares.Given as goal

abbrev pub invariant-loop-share : goal.invariant-loop-share
invariant-loop-share g l =
    (length l.counters.items ≡ l.share)
    × (sum_by counter_sources l.counters.items + l.left ≡ l.sources)
    × All (λ counter. IsNewCounter l.schema (counter_sources counter) l.conditions counter) l.counters.items
    × (l.share ≡ l.shares → l.left ≡ 0)
