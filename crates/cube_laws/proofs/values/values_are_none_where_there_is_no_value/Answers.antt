use Rattle.cube_laws.proofs.HeldLaws.{IsAnswer-values_none}
use Rattle.cube_laws.proofs.values.values_are_none_where_there_is_no_value.Goals as goal

pub returns : goal.returns
returns c = IsAnswer-values_none
