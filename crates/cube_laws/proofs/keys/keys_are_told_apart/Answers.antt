use Rattle.cube_laws.proofs.KeyLaws.{LookAlike-unique}
use Rattle.cube_laws.proofs.keys.keys_are_told_apart.Goals as goal

pub returns : goal.returns
returns c a b told_a told_b alike = LookAlike-unique a b told_a told_b alike
