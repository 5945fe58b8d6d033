use Rattle.std.proofs.Common.{ℤ, List, [], ◌≡◌, ◌<◌, length, refl, arith, rules, FitsSigned, w32, w64}
use Rattle.std.proofs.lemmas.Int.{to_z-of_z}
use Rattle.cube_values.specs.Bag.{Bag, AddsOne, AddsBag, HasEnds, held_of, size_of}
use Rattle.cube_values.specs.Narrow.{once_each}
use Rattle.cube_values.proofs.BagLaws.{size_of_one}
use Rattle.cube_values.proofs.NarrowLaws.{size_of-once_each}
use Rattle.cube_values.proofs.OrderedLaws.{Covers-removed, AddsOne-removed, IsListed-sorted}
use Rattle.cube_values.proofs.ordered.Ordered.settle_without.Goals as goal

pub remove_one-requires : goal.remove_one-requires
remove_one-requires c =
    let fits : FitsSigned w64 c.args.value = c.ranges.value in
    let held : 0 < held_of c.self.inside.trace.bag c.args.value = rw (← c.self.view_is) at c.requires.held in
    rw (to_z-of_z w64 c.args.value fits) (omega (arith, held, c.self.invariant.same.held c.args.value))

pub pay-requires : goal.pay-requires
pay-requires c =
    let fits : FitsSigned w64 c.args.value = c.ranges.value in
    let held : 0 < held_of c.self.inside.trace.bag c.args.value = rw (← c.self.view_is) at c.requires.held in
    rw c.deref_mut.ensures.value (Covers-removed c.self.inside.trace.bag c.self.inside.numbers.items
    c.remove_one.new.numbers.items c.self.inside.taken.items c.args.value c.self.invariant.same held
    (rw (to_z-of_z w64 c.args.value fits) at c.remove_one.ensures))

pub ends_in_order-least-requires-clause-some : goal.ends_in_order-least-requires-clause-some
ends_in_order-least-requires-clause-some c =
    let bag : Bag = c.self.inside.trace.bag in
    let old : List ℤ = c.self.inside.numbers.items in
    let now : List ℤ = c.remove_one.new.numbers.items in
    let left : List ℤ = c.pay.new.numbers.items in
    let taken : List ℤ = c.self.inside.taken.items in
    let fits : FitsSigned w64 c.args.value = c.ranges.value in
    let gone : AddsOne (once_each now) (once_each old) c.args.value =
    (rw (to_z-of_z w64 c.args.value fits) at c.remove_one.ensures) in
    let paid : AddsBag (once_each left) (once_each now) (once_each taken) =
    (rw c.deref_mut.ensures.value at c.pay.ensures.same) in
    let more : 1 < size_of bag = rw (← c.self.view_is) at c.requires.more in
    rw c.deref-2.ensures.value (omega (
      arith,
      more,
      size_of-once_each left,
      size_of_one (once_each left) bag c.args.value (AddsOne-removed bag (once_each old) (once_each now)
          (once_each left) (once_each taken) c.args.value c.self.invariant.same gone paid),
    ))

pub invariant_of-self : goal.invariant_of-self
invariant_of-self c =
    let left : List ℤ = c.pay.new.numbers.items in
    let low : ℤ = c.ends_in_order-least.result.0 in
    let high : ℤ = c.ends_in_order-least.result.1 in
    let least : FitsSigned w32 low = search rules in
    let greatest : FitsSigned w32 high = search rules in
    let trace : c.list-self-inside.result.bag ≡ once_each left = search rules in
    let none : c.clear.new.self.items ≡ [] = search rules in
    let all : c.len-self-inside.result ≡ length left = search rules in
    let ends : HasEnds (once_each left) low high = search rules in
    rw (trace, none, to_z-of_z w32 low least, to_z-of_z w32 high greatest) (IsListed-sorted (once_each left) left
    c.len-self-inside.result low high (record { held = λ x. refl }) c.pay.ensures.sorted all ends)

pub returns : goal.returns
returns c =
    let bag : Bag = c.self.inside.trace.bag in
    let old : List ℤ = c.self.inside.numbers.items in
    let now : List ℤ = c.remove_one.new.numbers.items in
    let left : List ℤ = c.pay.new.numbers.items in
    let taken : List ℤ = c.self.inside.taken.items in
    let fits : FitsSigned w64 c.args.value = c.ranges.value in
    let gone : AddsOne (once_each now) (once_each old) c.args.value =
    (rw (to_z-of_z w64 c.args.value fits) at c.remove_one.ensures) in
    let paid : AddsBag (once_each left) (once_each now) (once_each taken) =
    (rw c.deref_mut.ensures.value at c.pay.ensures.same) in
    let trace : c.list-self-inside.result.bag ≡ once_each left = search rules in
    rw (trace, ← c.self.view_is) (AddsOne-removed bag (once_each old) (once_each now) (once_each left) (once_each taken)
    c.args.value c.self.invariant.same gone paid)
