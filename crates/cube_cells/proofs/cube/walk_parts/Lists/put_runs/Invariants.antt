use Rattle.std.proofs.Common.{◌-◌, [], length}
use Rattle.cube_cells.specs.BottomUp.{cells_of_items}
use Rattle.cube_cells.proofs.Filling.PartLaws.{IsCutting}
use Rattle.cube_cells.proofs.cube.walk_parts.Lists.put_runs.Given as goal

abbrev pub invariant-loop-start : goal.invariant-loop-start
invariant-loop-start g l = IsCutting l.self.kept.now l.self.dimensions l.from (cells_of_items l.items) l.start
    l.initial.parts.items l.parts.items

abbrev pub decreases-loop-start : goal.decreases-loop-start
decreases-loop-start g l = length l.items - l.start
