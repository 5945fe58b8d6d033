use Rattle.std.proofs.Common.{ℤ, List, [], ◌∙◌, refl, rules, FitsSigned, w64}
use Rattle.std.proofs.lemmas.Int.{to_z-of_z}
use Rattle.cube_values.specs.Bag.{Bag, SameHeld, AddsOne}
use Rattle.cube_values.specs.Log.{without}
use Rattle.cube_values.proofs.OwedLaws.{Owes-nothing, size_of-settled, AddsOne-SameHeld_new, IfNone-IsSettled}
use Rattle.cube_values.proofs.OwedLaws.{written_back}
use Rattle.cube_values.proofs.log.Log.settle.Goals as goal

pub invariant_of-self : goal.invariant_of-self
invariant_of-self c =
    let fits : FitsSigned w64 c.args.value = c.ranges.value in
    let pairs : Bag = c.self.inside.pairs.items in
    let owed : List ℤ = c.self.inside.taken.items in
    let settled : Bag = c.pay_and_take.new.pairs in
    let new : Bag = c.reopened-self-inside.new.pairs.items in
    let taken : AddsOne settled (without owed pairs) c.args.value = search (rules, to_z-of_z) in
    let left : SameHeld settled new = rw (written_back settled pairs c.self.inside.pairs.len c.self.inside.pairs.ok.0
    (c.pay_and_take.auto.pairs ∙ c.deref_mut.ensures.len)) at c.reopened-self-inside.ensures.same in
    rw c.clear.ensures.items (
      Owes-nothing pairs new owed c.self.inside.total c.self.invariant.0
          (size_of-settled pairs settled new owed c.args.value taken left),
      c.reopened-self-inside.ensures.ends,
      IfNone-IsSettled c.reopened-self-inside.result new [] refl c.reopened-self-inside.ensures.ordered,
    )

pub returns : goal.returns
returns c =
    let fits : FitsSigned w64 c.args.value = c.ranges.value in
    let pairs : Bag = c.self.inside.pairs.items in
    let owed : List ℤ = c.self.inside.taken.items in
    let settled : Bag = c.pay_and_take.new.pairs in
    let new : Bag = c.reopened-self-inside.new.pairs.items in
    let taken : AddsOne settled (without owed pairs) c.args.value = search (rules, to_z-of_z) in
    let left : SameHeld settled new = rw (written_back settled pairs c.self.inside.pairs.len c.self.inside.pairs.ok.0
    (c.pay_and_take.auto.pairs ∙ c.deref_mut.ensures.len)) at c.reopened-self-inside.ensures.same in
    rw (c.clear.ensures.items, ← c.self.view_is)
    (AddsOne-SameHeld_new (without owed pairs) settled new c.args.value taken left)
