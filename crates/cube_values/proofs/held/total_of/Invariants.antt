use Rattle.std.proofs.Common.{drop}
use Rattle.cube_values.proofs.HeldLaws.{IsTotalledTo}
use Rattle.cube_values.proofs.held.total_of.Given as goal

abbrev pub invariant-loop-pair : goal.invariant-loop-pair
invariant-loop-pair l = IsTotalledTo l.held (drop l.pair-index l.held) l.total
