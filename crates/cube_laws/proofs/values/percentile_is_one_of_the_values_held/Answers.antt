use Rattle.cube_laws.proofs.HeldLaws.{IsAnswer-percentile_held}
use Rattle.cube_laws.proofs.values.percentile_is_one_of_the_values_held.Goals as goal

pub returns : goal.returns
returns c = IsAnswer-percentile_held
