use Rattle.std.proofs.Common.{inl, inr}
use Rattle.cube_rings.proofs.PlaceLaws.{lt-cases}
use Rattle.cube_tool.proofs.command.merging.stands_before.Goals as goal

pub loop-earlier-preserved : goal.loop-earlier-preserved
loop-earlier-preserved c = λ k before same.
    elim (lt-cases k c.loop-earlier.earlier before) [
      | inl less ↦ c.loop-earlier.invariant k less same
      | inr here ↦ c.are_one_cube.ensures.differ c.if-are_one_cube.false ((rw here at same) _)
    ]
