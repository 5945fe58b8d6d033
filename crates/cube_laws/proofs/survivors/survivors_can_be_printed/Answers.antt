use Rattle.cube_laws.proofs.SurvivorRangeLaws.{SurviveTogether-CanBePrinted}
use Rattle.cube_laws.proofs.survivors.survivors_can_be_printed.Goals as goal

pub returns : goal.returns
returns c = SurviveTogether-CanBePrinted
