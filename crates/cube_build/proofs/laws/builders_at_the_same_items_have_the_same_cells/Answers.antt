use Rattle.cube_build.proofs.SameLaws.{SameCells-stand}
use Rattle.cube_build.proofs.laws.builders_at_the_same_items_have_the_same_cells.Goals as goal

pub returns : goal.returns
returns c = SameCells-stand
