use Rattle.cube_laws.specs.Cells.{all_counted}
use Rattle.cube_laws.proofs.AskedLaws.{matches-pattern_for, cell_of-pattern_for, slice-row}
use Rattle.cube_laws.proofs.queries.slice_by_a_cell_is_its_row.Goals as goal

pub returns : goal.returns
returns c = record { matched = matches-pattern_for; cell = cell_of-pattern_for; row = λ s facts. slice-row s (all_counted s facts) }
