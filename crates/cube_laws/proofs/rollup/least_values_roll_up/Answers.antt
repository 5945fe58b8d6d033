use Rattle.cube_laws.proofs.RollupLaws.{Min-under}
use Rattle.cube_laws.proofs.rollup.least_values_roll_up.Goals as goal

pub returns : goal.returns
returns c s facts rows row dimension place m is at_place = Min-under s facts rows row dimension place is m at_place
