use Rattle.cube_cells.proofs.Cells.NewLaws.{IsStrictlySortedBy-one}
use Rattle.cube_cells.proofs.cube.Cube.finest_over.Goals as goal

pub over-requires-clause-ascending : goal.over-requires-clause-ascending
over-requires-clause-ascending g c = rw c.in_ok-sets.ensures.items (IsStrictlySortedBy-one c.finest_of.result)
