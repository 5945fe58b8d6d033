use Rattle.cube_cells.proofs.Tallies.ValueLaws.{IsTallyOf-nil}
use Rattle.cube_cells.proofs.cell.Cell.empty.Goals as goal

pub returns-clause-tally : goal.returns-clause-tally
returns-clause-tally g c = IsTallyOf-nil c.in_ok-empty_measures.field-0.items c.in_ok-empty_measures.ensures.empty
