use Rattle.cube_core.specs.Layout.{number_of_dimensions}
use Rattle.cube_core.specs.GroupingSet.{all_sets}
use Rattle.cube_laws.specs.Sets.{rows_in}
use Rattle.cube_laws.specs.Cells.{all_counted}
use Rattle.cube_laws.proofs.RowLaws.{AreRowsOver-unique}
use Rattle.cube_laws.proofs.SetLaws.{AreRowsOver-AreAmong, IsSchema-AreAmong}
use Rattle.cube_laws.proofs.sets.rows_are_those_of_the_whole_cube.Goals as goal

pub returns : goal.returns
returns c s facts rows whole is are are_whole =
    AreRowsOver-unique s.grouping_sets (number_of_dimensions s) s.aggregates (all_counted s facts) rows (rows_in s.grouping_sets whole) are
    (AreRowsOver-AreAmong (number_of_dimensions s) s.aggregates (all_counted s facts) whole
    (all_sets (number_of_dimensions s)) s.grouping_sets (IsSchema-AreAmong s is) are_whole)
