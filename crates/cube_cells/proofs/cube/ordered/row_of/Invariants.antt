use Rattle.std.proofs.Common.{take}
use Rattle.cube_cells.specs.Rows.{AreAnswersOf}
use Rattle.cube_cells.proofs.cube.ordered.row_of.Given as goal

abbrev pub invariant-loop-aggregate : goal.invariant-loop-aggregate
invariant-loop-aggregate g l = AreAnswersOf (take l.aggregate-index l.aggregates) l.cell l.answers.items
