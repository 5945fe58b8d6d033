use Rattle.cube_laws.proofs.HolisticLaws.{IsAnswer-some_distinct}
use Rattle.cube_laws.proofs.holistic.distinct_count_is_some_where_there_is_a_value.Goals as goal

pub returns : goal.returns
returns c = IsAnswer-some_distinct
