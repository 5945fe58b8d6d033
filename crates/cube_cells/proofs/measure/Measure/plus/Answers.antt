use Rattle.std.proofs.Common.{rules, arith, ap, FitsSigned, ◌<◌, ◌^◌}
use Rattle.std.specs.Prelude.{◌+ℤ◌}
use Rattle.std.specs.Int.{w64, w128}
use Rattle.std.proofs.lemmas.Int.{to_z-of_z}
use Rattle.cube_values.specs.Bag.{AddsOne, size_of}
use Rattle.cube_values.proofs.BagLaws.{size_of_one}
use Rattle.cube_cells.proofs.Tallies.SumLaws.{IsSumOf-FitsSigned, IsSumOf-add}
use Rattle.cube_cells.proofs.measure.Measure.plus.Goals as goal

pub sum_with-self-inside-requires : goal.sum_with-self-inside-requires
sum_with-self-inside-requires g c =
    let bag = g.N.Numbers.bag in
    let fits : FitsSigned w64 c.in-Some.value = search rules in
    let before : FitsSigned w128 c.self.inside.sum = search rules in
    let adds : AddsOne (bag c.self.inside.values) (bag c.add.new.self) c.in-Some.value = search rules in
    let few : size_of (bag c.add.new.self) < 2 ^ 64 = omega (
      arith,
      c.requires,
      ap size_of c.self.view_is,
      size_of_one (bag c.self.inside.values) (bag c.add.new.self) c.in-Some.value adds,
    ) in
    simp to_z-of_z (IsSumOf-FitsSigned (bag c.add.new.self) (c.self.inside.sum +ℤ c.in-Some.value)
    (IsSumOf-add (bag c.self.inside.values)
    (bag c.add.new.self) c.self.inside.sum c.in-Some.value c.self.invariant fits adds) few)

pub invariant_of-self-in-Some : goal.invariant_of-self-in-Some
invariant_of-self-in-Some g c =
    let bag = g.N.Numbers.bag in
    let fits : FitsSigned w64 c.in-Some.value = search rules in
    let adds : AddsOne (bag c.self.inside.values) (bag c.add.new.self) c.in-Some.value = search rules in
    let result_fits : FitsSigned w128 c.sum_with-self-inside.result = search rules in
    let before : FitsSigned w128 c.self.inside.sum = search rules in
    let is = simp to_z-of_z at c.sum_with-self-inside.ensures in
    simp to_z-of_z (rw is
    (IsSumOf-add (bag c.self.inside.values)
    (bag c.add.new.self) c.self.inside.sum c.in-Some.value c.self.invariant fits adds))
