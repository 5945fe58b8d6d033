use Rattle.std.proofs.Common.{◌≡◌, ◌==◌, filter, take}
use Rattle.cube_core.specs.GroupingSet.{part_of}
use Rattle.cube_cells.proofs.cube.kept_sets.Given as goal

abbrev pub invariant-loop-set : goal.invariant-loop-set
invariant-loop-set l = l.sets.items ≡ filter (λ set. part_of l.of set == l.part) (take l.set-index l.chosen)
