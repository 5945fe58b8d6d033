use Rattle.cube_laws.proofs.SetLaws.{is_cell-sets_of_part}
use Rattle.cube_laws.proofs.sets.each_cell_is_in_one_part.Goals as goal

pub returns : goal.returns
returns c parts dimensions sets facts key some cell = is_cell-sets_of_part parts dimensions sets facts key some cell
