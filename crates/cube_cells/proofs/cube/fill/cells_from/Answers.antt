use Rattle.std.proofs.Common.{◌==◌}
use Rattle.cube_cells.specs.Fill.{AreMadeFrom}
use Rattle.cube_cells.proofs.Filling.FillLaws.{AreMadeFrom-width, AreNewCells-width}
use Rattle.cube_cells.proofs.cube.fill.cells_from.Goals as goal

pub fill_set-requires : goal.fill_set-requires
fill_set-requires g c = record {
  measures = c.args.measures;
  each = c.requires;
  found = AreNewCells-width (c.args.set == 0) c.args.measures c.in_ok-cells.cells.entries c.in_ok-cells.ensures.new;
}

pub returns-clause-width : goal.returns-clause-width
returns-clause-width g c =
    let made : AreMadeFrom c.args.finer.now.entries c.args.set c.args.measures c.fill_set.new.cells.entries = record {
      start = c.in_ok-cells.cells.entries;
      new = c.in_ok-cells.ensures.new;
      fills = c.in_ok-fill_set.ensures;
    } in
    rw c.shrink_cells.ensures
    (AreMadeFrom-width c.args.measures c.args.set c.args.finer.now.entries c.fill_set.new.cells.entries c.requires made)
