use Rattle.cube_text.proofs.ShownLaws.{AllShownBelow}
use Rattle.cube_text.proofs.shown.all_shown.Given as goal

abbrev pub invariant-loop-dimension : goal.invariant-loop-dimension
invariant-loop-dimension g l = AllShownBelow l.cells.dictionaries l.dimension l.shown.items
