use Rattle.cube_cells.proofs.Rows.CountLaws.{TakesAll-cells}
use Rattle.cube_cells.proofs.cube.cell_count.CellCountTakesCells.take_cell.Goals as goal

pub returns-in-Some : goal.returns-in-Some
returns-in-Some g c = TakesAll-cells c.args.cell.now c.args.keys.now c.args.self.now
    (record { cells = c.in-Some.cells }) c.in-Some.ensures.1
