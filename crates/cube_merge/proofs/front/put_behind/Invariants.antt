use Rattle.std.proofs.Common.{◌≡◌, length}
use Rattle.cube_merge.specs.Front.{AreAbove}
use Rattle.cube_merge.proofs.front.put_behind.Given as goal

abbrev pub invariant-loop-place : goal.invariant-loop-place
invariant-loop-place g l =
    record { long : length l.behind.items ≡ l.place; above : AreAbove l.bound l.behind.items l.inputs }
