use Rattle.std.proofs.Common.{arith}
use Rattle.std.specs.Map.{keys_of}
use Rattle.cube_cells.specs.Coded.{decoded}
use Rattle.cube_cells.proofs.Rows.CountLaws.{cells-TakesAll, length-keys_of-decoded}
use Rattle.cube_cells.proofs.cube.finest_cells.FinestCells.count_cells.Goals as goal

pub returns : goal.returns
returns g c = λ facts all.
    let walk = c.in_ok-walk.ensures in
    let cells = walk.cells in
    record {
      keys = keys_of (decoded c.args.self.now.dictionaries cells);
      are = walk.are.keys facts all;
      many = omega (
        arith,
        cells-TakesAll _ c.walk.new.sink cells walk.taken,
        length-keys_of-decoded c.args.self.now.dictionaries cells,
      );
    }
