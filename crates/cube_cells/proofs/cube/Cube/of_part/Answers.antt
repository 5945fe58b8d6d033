use Rattle.cube_cells.proofs.Cells.NewLaws.{sets_of_part-below, sets_of_part-IsStrictlySortedBy}
use Rattle.cube_cells.proofs.cube.Cube.of_part.Goals as goal

pub over-requires-clause-within : goal.over-requires-clause-within
over-requires-clause-within g c = rw (c.in_ok-sets.ensures, c.grouping_sets.ensures.value)
    (sets_of_part-below c.args.schema.now c.args.part c.args.of c.grouping_sets.ensures.schema)

pub over-requires-clause-ascending : goal.over-requires-clause-ascending
over-requires-clause-ascending g c = rw (c.in_ok-sets.ensures, c.grouping_sets.ensures.value)
    (sets_of_part-IsStrictlySortedBy c.args.schema.now c.args.part c.args.of c.grouping_sets.ensures.schema)
