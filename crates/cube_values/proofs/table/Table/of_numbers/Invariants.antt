use Rattle.cube_values.specs.Narrow.{once_each}
use Rattle.cube_values.proofs.BagLaws.{IsSplit}
use Rattle.cube_values.proofs.table.Table.of_numbers.Given as goal

abbrev pub invariant-loop-number : goal.invariant-loop-number
invariant-loop-number l = IsSplit (once_each l.numbers) l.number-index l.table
