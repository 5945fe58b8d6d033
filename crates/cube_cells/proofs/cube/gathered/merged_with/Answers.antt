use Rattle.cube_cells.proofs.Filling.GatheredLaws.{HasGathered-merged}
use Rattle.cube_cells.proofs.cube.gathered.merged_with.Goals as goal

pub returns : goal.returns
returns g c =
    HasGathered-merged c.args.first c.args.second c.merged.result c.merged.ensures.same c.merged.ensures.facts
