use Rattle.cube_values.proofs.HeldLaws.{IsCheckedTo}
use Rattle.cube_values.proofs.held.are_in_order.Given as goal

abbrev pub invariant-loop-pair : goal.invariant-loop-pair
invariant-loop-pair l = IsCheckedTo l.held l.pair-index l.before
