use Rattle.cube_merge.specs.Front.{IsLeastIn}
use Rattle.cube_merge.proofs.front.least_in.Given as goal

abbrev pub invariant-loop-place : goal.invariant-loop-place
invariant-loop-place g l = IsLeastIn l.inputs l.behind l.least l.place
