use Rattle.cube_values.specs.Log.{IsOrdered}
use Rattle.cube_values.proofs.OwedLaws.{IsTaking}
use Rattle.cube_values.proofs.log.take_all.Given as goal

abbrev pub invariant-loop-number : goal.invariant-loop-number
invariant-loop-number l = IsOrdered l.pairs × IsTaking l.fn.pairs l.pairs l.numbers l.number-index
