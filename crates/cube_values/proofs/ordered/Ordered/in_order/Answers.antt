use Rattle.std.proofs.Common.{arith}
use Rattle.std.proofs.lemmas.Result.{IfOk-weaker}
use Rattle.cube_values.specs.Bag.{Bag}
use Rattle.cube_values.specs.Narrow.{once_each}
use Rattle.cube_values.specs.Statistics.{AreInOrder}
use Rattle.cube_values.proofs.BagLaws.{size_of_same}
use Rattle.cube_values.proofs.StatisticsLaws.{AreInOrder-SameHeld}
use Rattle.cube_values.proofs.ordered.Ordered.in_order.Goals as goal

pub numbers_in_order-requires : goal.numbers_in_order-requires
numbers_in_order-requires c =
    let bag : Bag = c.args.self.now in
    let listed : Bag = once_each c.in_ok-numbers.numbers.items in
    rw c.deref.ensures.value (omega (arith, c.requires, size_of_same bag listed c.in_ok-numbers.ensures.same))

pub returns : goal.returns
returns c =
    let bag : Bag = c.args.self.now in
    let listed : Bag = once_each c.in_ok-numbers.numbers.items in
    IfOk-weaker c.numbers_in_order.result (λ pairs. AreInOrder listed pairs.items) (λ pairs. AreInOrder bag pairs.items)
    (λ pairs is. AreInOrder-SameHeld bag listed pairs.items c.in_ok-numbers.ensures.same is)
    (rw c.deref.ensures.value at c.numbers_in_order.ensures)
