use Rattle.std.proofs.Common.{drop}
use Rattle.cube_values.proofs.StatisticsLaws.{IsSquaredTo}
use Rattle.cube_values.proofs.squares.pairs_squares.Given as goal

abbrev pub invariant-loop-pair : goal.invariant-loop-pair
invariant-loop-pair l = IsSquaredTo l.pairs (drop l.pair-index l.pairs) l.sum
