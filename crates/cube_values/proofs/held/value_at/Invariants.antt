use Rattle.std.proofs.Common.{drop}
use Rattle.cube_values.proofs.StatisticsLaws.{IsWalkedTo}
use Rattle.cube_values.proofs.held.value_at.Given as goal

abbrev pub invariant-loop-pair : goal.invariant-loop-pair
invariant-loop-pair l = IsWalkedTo l.held l.place (drop l.pair-index l.held) l.left
