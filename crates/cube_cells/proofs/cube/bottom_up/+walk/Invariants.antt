use Rattle.std.proofs.Common.{◌+◌, ◌*◌, ◌-◌, length}
use Rattle.cube_cells.specs.BottomUp.{cells_of_items}
use Rattle.cube_cells.proofs.Filling.BottomUpLaws.{IsWalking}
use Rattle.cube_cells.proofs.cube.bottom_up.+walk.Given as goal

abbrev pub decreases-walk : goal.decreases-walk
decreases-walk g l = 2 * (l.dimensions - l.from) + 1

abbrev pub decreases-walk_runs : goal.decreases-walk_runs
decreases-walk_runs g l = 2 * (l.dimensions - l.from)

abbrev pub invariant-walk_runs-loop-start : goal.invariant-walk_runs-loop-start
invariant-walk_runs-loop-start g l = IsWalking g.S.TakesCells.takes l.kept l.dimensions l.from (cells_of_items l.items)
    l.start l.initial.sink l.sink

abbrev pub decreases-walk_runs-loop-start : goal.decreases-walk_runs-loop-start
decreases-walk_runs-loop-start g l = length l.items - l.start
