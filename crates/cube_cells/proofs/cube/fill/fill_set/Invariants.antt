use Rattle.cube_cells.proofs.Filling.FillLaws.{IsFillingSet}
use Rattle.cube_cells.proofs.cube.fill.fill_set.Given as goal

abbrev pub invariant-loop-codes : goal.invariant-loop-codes
invariant-loop-codes g l =
    (goal.iterator-loop-codes g).can_next l.codes-iterator
    × (goal.iterator-loop-codes g).is_finite l.codes-iterator
    × IsFillingSet l.set l.finer.entries l.codes-iterator l.initial.cells.entries l.cells.entries
