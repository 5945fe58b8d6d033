use Rattle.cube_core.specs.Layout.{sample_layout}
use Rattle.cube_core.proofs.SufficesLaws.{all_suffice_kept}
use Rattle.cube_cells.proofs.cube.queries.Cube.roll_up.Goals as goal

pub row_of-requires-clause-keeps : goal.row_of-requires-clause-keeps
row_of-requires-clause-keeps c = all_suffice_kept (record sample_layout { aggregates = c.aggregates.result.now })
