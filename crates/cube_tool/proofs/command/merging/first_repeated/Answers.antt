use Rattle.std.proofs.Common.{inl, inr, arith}
use Rattle.cube_rings.proofs.PlaceLaws.{lt-cases}
use Rattle.cube_tool.proofs.command.merging.first_repeated.Goals as goal

pub loop-place-preserved : goal.loop-place-preserved
loop-place-preserved c = λ k before stands.
    elim (lt-cases k c.loop-place.place before) [
      | inl less ↦ c.loop-place.invariant k less stands
      | inr here ↦ c.stands_before.ensures.differs c.if-stands_before.false (rw here at stands)
    ]

pub returns : goal.returns
returns c = λ k inside stands. c.loop-place.invariant k (omega (arith, inside, c.loop-place-test.false)) stands
