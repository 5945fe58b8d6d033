use Rattle.cube_store_commands.proofs.GoesOnLaws.{goes_on}
use Rattle.cube_store_commands.proofs.laws.start_goes_on.Goals as goal

pub returns : goal.returns
returns c = goes_on
