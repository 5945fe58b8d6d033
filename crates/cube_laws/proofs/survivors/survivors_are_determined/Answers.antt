use Rattle.cube_laws.proofs.SurvivorLaws.{Survive-IsPermutation}
use Rattle.cube_laws.proofs.survivors.survivors_are_determined.Goals as goal

pub returns : goal.returns
returns c = Survive-IsPermutation
