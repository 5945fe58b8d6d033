use Rattle.std.proofs.Common.{◌<◌}
use Rattle.std.specs.Prelude.{All}
use Rattle.cube_values.specs.Values.{bag_of}
use Rattle.cube_values.proofs.BagLaws.{IsMerging}
use Rattle.cube_values.proofs.counted.merge_counts.Given as goal

abbrev pub invariant-loop-value : goal.invariant-loop-value
invariant-loop-value l =
    (goal.iterator-loop-value).can_next l.value-iterator
    × (goal.iterator-loop-value).is_finite l.value-iterator
    × IsMerging (bag_of l.initial.values) l.counts.entries l.value-iterator (bag_of l.values)
    × All (λ e. 0 < e.1) l.value-iterator
