use Rattle.std.proofs.Common.{◌≡◌, length}
use Rattle.std.specs.Prelude.{All}
use Rattle.cube_cells.specs.Fill.{finest_set}
use Rattle.cube_cells.specs.Merged.{recoded_cells}
use Rattle.cube_cells.specs.Walk.{key_in}
use Rattle.cube_cells.proofs.Filling.FillLaws.{IsFillingSet}
use Rattle.cube_cells.proofs.cube.merged.merge_recoded.Given as goal

abbrev pub invariant-loop-codes : goal.invariant-loop-codes
invariant-loop-codes g l =
    (goal.iterator-loop-codes g).can_next l.codes-iterator
    × (goal.iterator-loop-codes g).is_finite l.codes-iterator
    × IsFillingSet (finest_set (length l.columns)) (recoded_cells l.columns l.fn.more.entries)
    (recoded_cells l.columns l.codes-iterator) l.initial.cells.entries l.cells.entries
    × All (λ cell. key_in cell.0 (finest_set (length l.columns)) ≡ cell.0) (recoded_cells l.columns l.codes-iterator)
