use Rattle.cube_merge.specs.Front.{AreAbove}
use Rattle.cube_merge.proofs.front.Front.put_moved.Given as goal

abbrev pub invariant-loop-place : goal.invariant-loop-place
invariant-loop-place g l = AreAbove l.self.bound l.self.behind.items l.inputs
