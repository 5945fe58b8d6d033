use Rattle.cube_laws.proofs.KeyLaws.{row_fields-unique}
use Rattle.cube_laws.proofs.keys.rows_are_told_apart.Goals as goal

pub returns : goal.returns
returns c s facts rows a b fit whole in_a in_b same = row_fields-unique s facts rows a b fit whole in_a in_b same
