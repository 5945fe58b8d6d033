use Rattle.cube_laws.proofs.RollupLaws.{Max-under}
use Rattle.cube_laws.proofs.rollup.greatest_values_roll_up.Goals as goal

pub returns : goal.returns
returns c s facts rows row dimension place m is at_place = Max-under s facts rows row dimension place is m at_place
