use Rattle.std.proofs.Common.{take}
use Rattle.cube_cells.specs.Tally.{SameBags}
use Rattle.cube_cells.proofs.cell.copies.Given as goal

abbrev pub invariant-loop-measure : goal.invariant-loop-measure
invariant-loop-measure g l = SameBags (take l.measure-index l.measures) l.copies.items
