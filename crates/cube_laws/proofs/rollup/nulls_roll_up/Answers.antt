use Rattle.cube_laws.proofs.RollupLaws.{Null-under}
use Rattle.cube_laws.proofs.rollup.nulls_roll_up.Goals as goal

pub returns : goal.returns
returns c s facts rows row dimension place aggregate is numbers at_place =
    Null-under s facts rows row dimension place is aggregate numbers at_place
