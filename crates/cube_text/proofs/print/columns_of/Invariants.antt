use Rattle.std.proofs.Common.{take}
use Rattle.cube_text.specs.Rows.{AreColumns}
use Rattle.cube_text.proofs.print.columns_of.Given as goal

abbrev pub invariant-loop-which : goal.invariant-loop-which
invariant-loop-which l = AreColumns (take l.which l.cells.aggregates) l.cells.cells l.from l.to l.columns.items
