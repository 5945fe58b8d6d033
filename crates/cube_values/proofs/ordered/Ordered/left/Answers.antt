use Rattle.std.proofs.Common.{ℤ, List, ◌≡◌, rules}
use Rattle.cube_values.specs.Bag.{Bag, AddsBag}
use Rattle.cube_values.specs.Narrow.{once_each}
use Rattle.cube_values.proofs.OrderedLaws.{Covers-AddsBag, SameHeld-paid}
use Rattle.cube_values.proofs.ordered.Ordered.left.Goals as goal

pub pay-requires : goal.pay-requires
pay-requires c =
    let numbers : List ℤ = c.self.inside.numbers.items in
    let taken : List ℤ = c.self.inside.taken.items in
    let items : c.extend_from_slice.new.self.items ≡ numbers = search rules in
    let owed : c.deref_mut.result.now ≡ taken = search rules in
    rw (items, owed) (Covers-AddsBag c.self.inside.trace.bag numbers taken c.self.invariant.same)

pub returns-clause-same : goal.returns-clause-same
returns-clause-same c =
    let bag : Bag = c.self.inside.trace.bag in
    let numbers : List ℤ = c.self.inside.numbers.items in
    let taken : List ℤ = c.self.inside.taken.items in
    let left : List ℤ = c.pay.new.numbers.items in
    let items : c.extend_from_slice.new.self.items ≡ numbers = search rules in
    let owed : c.deref_mut.result.now ≡ taken = search rules in
    let paid : AddsBag (once_each left) (once_each numbers) (once_each taken) =
    (rw (items, owed) at c.pay.ensures.same) in
    rw (← c.self.view_is)
    (SameHeld-paid bag (once_each numbers) (once_each left) (once_each taken) c.self.invariant.same paid)
