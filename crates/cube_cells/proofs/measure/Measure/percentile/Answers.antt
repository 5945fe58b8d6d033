use Rattle.std.proofs.Common.{rules, arith, ◌≡◌, ◌<◌, FitsSigned}
use Rattle.std.specs.Int.{w64, w128}
use Rattle.std.proofs.lemmas.Bool.Decides.{nat_tests}
use Rattle.std.proofs.lemmas.Int.{to_z-of_z}
use Rattle.cube_core.specs.Answer.{percentile_place}
use Rattle.cube_values.specs.Bag.{size_of}
use Rattle.cube_values.specs.Statistics.{IsAtPlace}
use Rattle.cube_cells.proofs.Tallies.StatisticsLaws.{IsPercentile-Null, IsPercentile-Whole}
use Rattle.cube_cells.proofs.measure.Measure.percentile.Goals as goal

pub returns-then-is_empty : goal.returns-then-is_empty
returns-then-is_empty g c = λ values is.
    let bag = g.N.Numbers.bag in
    let none : size_of (bag c.self.inside.values) ≡ 0 = grind (arith, nat_tests) in
    IsPercentile-Null c.args.units c.args.places values (bag c.self.inside.values) (rw c.self.view_is is) none

pub returns : goal.returns
returns g c = λ values is.
    let bag = g.N.Numbers.bag in
    let number_fits : FitsSigned w64 c.at_place.result = search rules in
    let fits : FitsSigned w128 c.from.result = search rules in
    let same : c.from.result ≡ c.at_place.result = simp to_z-of_z at c.from.ensures in
    let some : 0 < size_of (bag c.self.inside.values) = grind (arith, nat_tests) in
    let at : IsAtPlace (bag c.self.inside.values)
    (percentile_place c.args.units c.args.places (size_of (bag c.self.inside.values))) c.at_place.result =
    rw (c.percentile_place-place.ensures.place, c.len.ensures) at (c.at_place.ensures c.requires.keeps) in
    simp to_z-of_z (rw same (IsPercentile-Whole c.args.units c.args.places values (bag c.self.inside.values)
    c.at_place.result (rw c.self.view_is is) some at))
