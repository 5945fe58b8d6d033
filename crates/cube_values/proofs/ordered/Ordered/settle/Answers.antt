use Rattle.std.proofs.Common.{ℤ, List, [], ◌≡◌, length, rules}
use Rattle.cube_values.specs.Bag.{Bag, AddsBag}
use Rattle.cube_values.specs.Narrow.{once_each}
use Rattle.cube_values.proofs.OrderedLaws.{Covers-AddsBag, SameHeld-paid, IsListed-sorted}
use Rattle.cube_values.proofs.ordered.Ordered.settle.Goals as goal

pub pay-requires : goal.pay-requires
pay-requires c =
    let taken : List ℤ = c.self.inside.taken.items in
    let owed : c.deref_mut.result.now ≡ taken = search rules in
    rw owed (Covers-AddsBag c.self.inside.trace.bag c.self.inside.numbers.items taken c.self.invariant.same)

pub invariant_of-self : goal.invariant_of-self
invariant_of-self c =
    let bag : Bag = c.self.inside.trace.bag in
    let numbers : List ℤ = c.self.inside.numbers.items in
    let taken : List ℤ = c.self.inside.taken.items in
    let left : List ℤ = c.pay.new.numbers.items in
    let owed : c.deref_mut.result.now ≡ taken = search rules in
    let paid : AddsBag (once_each left) (once_each numbers) (once_each taken) = (rw owed at c.pay.ensures.same) in
    let none : c.clear.new.self.items ≡ [] = search rules in
    let all : c.len-self-inside.result ≡ length left = search rules in
    rw none (IsListed-sorted bag left c.len-self-inside.result c.self.inside.least c.self.inside.greatest
    (SameHeld-paid bag (once_each numbers) (once_each left) (once_each taken) c.self.invariant.same paid)
    c.pay.ensures.sorted all c.self.invariant.ends)
