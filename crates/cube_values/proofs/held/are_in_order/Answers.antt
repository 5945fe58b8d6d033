use Rattle.cube_values.proofs.HeldLaws.{IsCheckedTo-AreHeld}
use Rattle.cube_values.proofs.held.are_in_order.Goals as goal

pub returns : goal.returns
returns c = λ _. IsCheckedTo-AreHeld c.args.held.now c.loop-pair.pair-index c.loop-pair.before c.loop-pair.invariant
    c.loop-pair-test.false
