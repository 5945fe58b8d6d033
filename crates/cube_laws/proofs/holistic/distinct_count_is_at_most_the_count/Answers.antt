use Rattle.cube_laws.proofs.HolisticLaws.{IsAnswer-distinct}
use Rattle.cube_laws.proofs.holistic.distinct_count_is_at_most_the_count.Goals as goal

pub returns : goal.returns
returns c = IsAnswer-distinct
