use Rattle.cube_laws.specs.Cells.{all_counted}
use Rattle.cube_laws.proofs.CellCountLaws.{AreRows-most_cells}
use Rattle.cube_laws.proofs.counts.cells_are_at_most.Goals as goal

pub returns : goal.returns
returns c s facts rows values are long among = AreRows-most_cells s (all_counted s facts) rows values are long among
