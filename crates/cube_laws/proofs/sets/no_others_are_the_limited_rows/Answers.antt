use Rattle.cube_core.specs.Layout.{number_of_dimensions}
use Rattle.cube_laws.specs.Sets.{rows_in}
use Rattle.cube_laws.specs.Cells.{all_counted}
use Rattle.cube_laws.proofs.RowLaws.{AreRowsOver-unique}
use Rattle.cube_laws.proofs.SetLaws.{AreRowsOver-AreAmong}
use Rattle.cube_laws.proofs.sets.no_others_are_the_limited_rows.Goals as goal

pub returns : goal.returns
returns c s facts rows limited sets are whole limits =
    AreRowsOver-unique sets (number_of_dimensions s) s.aggregates (all_counted s facts) limited (rows_in sets rows) limits
    (AreRowsOver-AreAmong (number_of_dimensions s) s.aggregates (all_counted s facts) rows s.grouping_sets sets are whole)
