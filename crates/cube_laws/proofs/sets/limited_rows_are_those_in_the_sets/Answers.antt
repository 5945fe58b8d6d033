use Rattle.cube_core.specs.Layout.{number_of_dimensions}
use Rattle.cube_laws.specs.Cells.{all_counted}
use Rattle.cube_laws.proofs.SetLaws.{AreRowsOver-AreAmong}
use Rattle.cube_laws.proofs.sets.limited_rows_are_those_in_the_sets.Goals as goal

pub returns : goal.returns
returns c s facts rows sets are whole =
    AreRowsOver-AreAmong (number_of_dimensions s) s.aggregates (all_counted s facts) rows s.grouping_sets sets are whole
