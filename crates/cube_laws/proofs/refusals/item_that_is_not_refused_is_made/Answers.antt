use Rattle.cube_laws.proofs.RefusedLaws.{refusal_of-IsMade}
use Rattle.cube_laws.proofs.refusals.item_that_is_not_refused_is_made.Goals as goal

pub returns : goal.returns
returns c = refusal_of-IsMade
