use Rattle.std.proofs.Common.{sym}
use Rattle.cube_cells.proofs.Codes.KeyLaws.{length-coords_at}
use Rattle.cube_cells.proofs.cube.keyed.KeyedCell.dimensions.Goals as goal

pub returns : goal.returns
returns c = rw (← c.self.view_is)
    (sym (length-coords_at c.self.inside.dictionaries.now c.self.inside.codes.now.codes))
