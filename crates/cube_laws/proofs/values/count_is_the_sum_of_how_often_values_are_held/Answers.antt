use Rattle.cube_laws.proofs.HeldLaws.{IsAnswer-count_held}
use Rattle.cube_laws.proofs.values.count_is_the_sum_of_how_often_values_are_held.Goals as goal

pub returns : goal.returns
returns c = IsAnswer-count_held
