use Rattle.cube_laws.proofs.RollupLaws.{Sum-under}
use Rattle.cube_laws.proofs.rollup.sums_roll_up.Goals as goal

pub returns : goal.returns
returns c s facts rows row dimension place m is at_place = Sum-under s facts rows row dimension place is m at_place
