use Rattle.std.proofs.Common.{◌≡◌}
use Rattle.cube_cells.specs.Ranking.{ranked_dictionaries}
use Rattle.cube_cells.proofs.cube.finest_cells.sorted_texts.Given as goal

abbrev pub invariant-loop-one : goal.invariant-loop-one
invariant-loop-one l = l.texts.items ≡ ranked_dictionaries l.yielded
