use Rattle.std.proofs.Common.{take}
use Rattle.std.specs.List.{AllZip}
use Rattle.cube_cells.specs.Rows.{IsRowOf}
use Rattle.cube_cells.proofs.cube.ordered.OrderedCells.rows.Given as goal

abbrev pub invariant-loop-place : goal.invariant-loop-place
invariant-loop-place l = AllZip (IsRowOf l.self.aggregates) (take l.place l.self.cells) l.rows.items
