use Rattle.cube_values.specs.Statistics.{IsSpanOf}
use Rattle.cube_values.specs.Values.{bag_of}
use Rattle.cube_values.proofs.counted.statistics.number_in_span.Given as goal

abbrev pub invariant-loop-left : goal.invariant-loop-left
invariant-loop-left l = IsSpanOf (bag_of l.values) l.place l.left.low l.left.width

abbrev pub decreases-loop-left : goal.decreases-loop-left
decreases-loop-left l = l.left.width
