use Rattle.cube_laws.specs.Cells.{all_counted}
use Rattle.cube_laws.proofs.DrilledLaws.{rows_below-unique}
use Rattle.cube_laws.proofs.rollup.drilled_rows_are_the_rows_below.Goals as goal

pub returns : goal.returns
returns c s facts rows drilled above dimension all some =
    rows_below-unique s (all_counted s facts) rows drilled above dimension all some
