use Rattle.cube_laws.proofs.SetLaws.{is_among-sets_of_part}
use Rattle.cube_laws.proofs.sets.parts_have_no_other_sets.Goals as goal

pub returns : goal.returns
returns c parts j sets set among = is_among-sets_of_part parts j sets set among
