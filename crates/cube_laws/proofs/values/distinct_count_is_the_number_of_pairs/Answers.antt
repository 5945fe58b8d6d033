use Rattle.cube_laws.proofs.HeldLaws.{IsAnswer-distinct_held}
use Rattle.cube_laws.proofs.values.distinct_count_is_the_number_of_pairs.Goals as goal

pub returns : goal.returns
returns c = IsAnswer-distinct_held
