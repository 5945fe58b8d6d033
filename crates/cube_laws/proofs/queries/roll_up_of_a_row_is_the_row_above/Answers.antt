use Rattle.cube_laws.specs.Cells.{all_counted}
use Rattle.cube_laws.proofs.AskedLaws.{rolled_up-there, rolled_up-elsewhere, drills_down-rolled_up, rolled_up-row}
use Rattle.cube_laws.proofs.queries.roll_up_of_a_row_is_the_row_above.Goals as goal

pub returns : goal.returns
returns c = record {
  there = rolled_up-there;
  elsewhere = rolled_up-elsewhere;
  below = drills_down-rolled_up;
  row = λ s facts. rolled_up-row s (all_counted s facts);
}
