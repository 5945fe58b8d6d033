use Rattle.std.proofs.Common.{rules, arith, ◌<◌, ◌^◌, FitsSigned}
use Rattle.std.specs.Prelude.{◌-ℤ◌}
use Rattle.std.specs.Int.{w64, w128}
use Rattle.std.proofs.lemmas.Int.{to_z-of_z}
use Rattle.cube_values.specs.Bag.{AddsOne, size_of}
use Rattle.cube_values.proofs.BagLaws.{size_of_one}
use Rattle.cube_cells.proofs.Tallies.SumLaws.{IsSumOf-FitsSigned, IsSumOf-take}
use Rattle.cube_cells.proofs.measure.Measure.minus.Goals as goal

pub sum_without-self-inside-requires : goal.sum_without-self-inside-requires
sum_without-self-inside-requires c =
    let fits : FitsSigned w64 c.in-Some.value = search rules in
    let before : FitsSigned w128 c.self.inside.sum = search rules in
    let taken : AddsOne c.take.new.self c.self.inside.values c.in-Some.value = search rules in
    let few : size_of c.take.new.self < 2 ^ 64 =
    omega (arith, c.take.ensures.size, size_of_one c.take.new.self c.self.inside.values c.in-Some.value taken) in
    simp to_z-of_z (IsSumOf-FitsSigned c.take.new.self (c.self.inside.sum -ℤ c.in-Some.value)
    (IsSumOf-take c.self.inside.values c.take.new.self c.self.inside.sum c.in-Some.value c.self.invariant taken) few)

pub invariant_of-self : goal.invariant_of-self
invariant_of-self c =
    let fits : FitsSigned w64 c.in-Some.value = search rules in
    let taken : AddsOne c.take.new.self c.self.inside.values c.in-Some.value = search rules in
    let result_fits : FitsSigned w128 c.sum_without-self-inside.result = search rules in
    let before : FitsSigned w128 c.self.inside.sum = search rules in
    let is = simp to_z-of_z at c.sum_without-self-inside.ensures in
    simp to_z-of_z
    (rw is (IsSumOf-take c.self.inside.values c.take.new.self c.self.inside.sum c.in-Some.value c.self.invariant taken))
