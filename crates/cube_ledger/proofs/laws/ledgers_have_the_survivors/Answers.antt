use Rattle.cube_ledger.proofs.SurvivorLaws.{SurviveTogether-stands}
use Rattle.cube_ledger.proofs.laws.ledgers_have_the_survivors.Goals as goal

pub returns : goal.returns
returns c = SurviveTogether-stands
