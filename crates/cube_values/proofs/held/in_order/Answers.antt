use Rattle.std.proofs.Common.{sym, arith}
use Rattle.cube_core.specs.Answer.{values_held}
use Rattle.cube_values.specs.Bag.{Bag}
use Rattle.cube_values.proofs.HeldLaws.{AreHeld-AreInOrder, times_among-values_held, length-values_held}
use Rattle.cube_values.proofs.held.in_order.Goals as goal

pub put_in_order-requires : goal.put_in_order-requires
put_in_order-requires c = omega (arith, c.requires, length-values_held c.args.held.items)

pub returns : goal.returns
returns c =
    let held : Bag = c.args.held.items in
    AreHeld-AreInOrder (values_held held) held c.put_in_order.result.items
    (λ x. sym (times_among-values_held held x)) c.put_in_order.ensures
