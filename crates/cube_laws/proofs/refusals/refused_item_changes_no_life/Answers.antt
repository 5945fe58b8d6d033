use Rattle.cube_laws.proofs.RefusedLaws.{refusal_of-life_of}
use Rattle.cube_laws.proofs.refusals.refused_item_changes_no_life.Goals as goal

pub returns : goal.returns
returns c = refusal_of-life_of
