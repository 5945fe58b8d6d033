use Rattle.cube_laws.proofs.CellCountLaws.{CoveringKeys-all_sets}
use Rattle.cube_laws.proofs.counts.one_key_in_each_set.Goals as goal

pub returns : goal.returns
returns c = CoveringKeys-all_sets
