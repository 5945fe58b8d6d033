use Rattle.cube_laws.proofs.SurvivorLaws.{SurviveTogether-IsPermutation}
use Rattle.cube_laws.proofs.survivors.joined_survivors_are_determined.Goals as goal

pub returns : goal.returns
returns c = SurviveTogether-IsPermutation
