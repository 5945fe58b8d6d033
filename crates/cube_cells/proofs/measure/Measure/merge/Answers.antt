use Rattle.std.proofs.Common.{rules, arith, ap, FitsSigned, ◌<◌, ◌^◌, ◌≡◌}
use Rattle.std.specs.Prelude.{◌+ℤ◌}
use Rattle.std.specs.Int.{w128}
use Rattle.std.proofs.lemmas.Int.{to_z-of_z}
use Rattle.cube_values.specs.Bag.{AddsBag, size_of}
use Rattle.cube_values.proofs.BagLaws.{held_le_size, size_of-bag}
use Rattle.cube_cells.proofs.Tallies.SumLaws.{IsSumOf-FitsSigned, IsSumOf-join, IsSumOf-nothing}
use Rattle.cube_cells.proofs.measure.Measure.merge.Goals as goal

pub invariant_of-self : goal.invariant_of-self
invariant_of-self g c =
    let bag = g.N.Numbers.bag in
    let none : size_of (bag c.merge.new.self) ≡ 0 = search rules in
    IsSumOf-nothing (bag c.merge.new.self) (λ x. omega (arith, none, held_le_size (bag c.merge.new.self) x))

pub sum_of_both-self-inside-requires : goal.sum_of_both-self-inside-requires
sum_of_both-self-inside-requires g c =
    let bag = g.N.Numbers.bag in
    let mine : FitsSigned w128 c.self.inside.sum = search rules in
    let other : FitsSigned w128 c.more.inside.sum = search rules in
    let adds : AddsBag (bag c.self.inside.values) (bag c.merge.new.self) (bag c.more.inside.values) = search rules in
    let few : size_of (bag c.merge.new.self) < 2 ^ 64 = omega (
      arith,
      c.requires,
      ap size_of c.self.view_is,
      ap size_of c.more.view_is,
      size_of-bag (bag c.self.inside.values) (bag c.merge.new.self) (bag c.more.inside.values) adds,
    ) in
    simp to_z-of_z (IsSumOf-FitsSigned (bag c.merge.new.self) (c.self.inside.sum +ℤ c.more.inside.sum)
    (IsSumOf-join (bag c.self.inside.values) (bag c.merge.new.self)
    (bag c.more.inside.values) c.self.inside.sum c.more.inside.sum
    c.self.invariant c.more.invariant adds) few)

pub invariant_of-self-2 : goal.invariant_of-self-2
invariant_of-self-2 g c =
    let bag = g.N.Numbers.bag in
    let mine : FitsSigned w128 c.self.inside.sum = search rules in
    let other : FitsSigned w128 c.more.inside.sum = search rules in
    let adds : AddsBag (bag c.self.inside.values) (bag c.merge.new.self) (bag c.more.inside.values) = search rules in
    let result_fits : FitsSigned w128 c.sum_of_both-self-inside.result = search rules in
    let is = simp to_z-of_z at c.sum_of_both-self-inside.ensures in
    simp to_z-of_z
    (rw is (IsSumOf-join (bag c.self.inside.values) (bag c.merge.new.self) (bag c.more.inside.values) c.self.inside.sum
    c.more.inside.sum c.self.invariant c.more.invariant adds))
