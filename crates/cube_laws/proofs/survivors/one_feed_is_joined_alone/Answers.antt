use Rattle.cube_laws.proofs.SurvivorLaws.{SurviveTogether-AreSurviving}
use Rattle.cube_laws.proofs.survivors.one_feed_is_joined_alone.Goals as goal

pub returns : goal.returns
returns c = SurviveTogether-AreSurviving
