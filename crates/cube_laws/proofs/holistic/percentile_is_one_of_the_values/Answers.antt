use Rattle.cube_laws.proofs.HolisticLaws.{IsAnswer-percentile}
use Rattle.cube_laws.proofs.holistic.percentile_is_one_of_the_values.Goals as goal

pub returns : goal.returns
returns c = IsAnswer-percentile
