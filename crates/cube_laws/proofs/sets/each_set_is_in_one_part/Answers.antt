use Rattle.cube_laws.proofs.SetLaws.{sets_of_part-unique}
use Rattle.cube_laws.proofs.sets.each_set_is_in_one_part.Goals as goal

pub returns : goal.returns
returns c parts sets set some among = sets_of_part-unique parts sets set some among
