use Rattle.cube_values.specs.Bag.{AddsTimes}
use Rattle.cube_values.specs.Values.{bag_of}
use Rattle.cube_values.proofs.counted.merge_times.Given as goal

abbrev pub invariant-loop-time : goal.invariant-loop-time
invariant-loop-time l = AddsTimes (bag_of l.initial.values) (bag_of l.values) l.pair.0 l._time
