use Rattle.std.proofs.Common.{List, length}
use Rattle.cube_core.specs.Layout.{cube_schema}
use Rattle.cube_core.specs.declared.fact.Fact.{Fact}
use Rattle.cube_cells.specs.Gathered.{AreShares, HasGathered, share_of_fact}
use Rattle.cube_cells.proofs.Filling.GatheredLaws.{below}
use Rattle.cube_cells.proofs.cube.gathered.merged_shares.Given as goal

abbrev pub invariant-loop-cube : goal.invariant-loop-cube
invariant-loop-cube g l = (facts : List Fact) → AreShares (cube_schema l.schema) facts l.fn.cubes.items
    → HasGathered (cube_schema l.schema) (below (share_of_fact (length l.fn.cubes.items)) (length l.yielded) facts)
    l.whole
