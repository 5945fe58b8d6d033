use Rattle.cube_values.proofs.BagLaws.{IsSplit}
use Rattle.cube_values.proofs.table.Table.of_pairs.Given as goal

abbrev pub invariant-loop-pair : goal.invariant-loop-pair
invariant-loop-pair l = IsSplit l.pairs l.pair-index l.table
