use Rattle.cube_build.proofs.SameLaws.{SameCells-permutation}
use Rattle.cube_build.proofs.laws.cells_of_the_same_facts_are_the_same.Goals as goal

pub returns : goal.returns
returns c = SameCells-permutation
