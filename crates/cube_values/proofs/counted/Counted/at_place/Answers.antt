use Rattle.std.proofs.Common.{sym, subst, rules, FitsSigned, w64}
use Rattle.std.proofs.lemmas.Int.{to_z-of_z}
use Rattle.cube_values.specs.Bag.{Bag, HasLeast, HasGreatest}
use Rattle.cube_values.specs.Statistics.{IsSpanOf}
use Rattle.cube_values.proofs.StatisticsLaws.{IsSpanOf-ends}
use Rattle.cube_values.proofs.counted.Counted.at_place.Goals as goal

pub number_in_span-requires-clause-span : goal.number_in_span-requires-clause-span
number_in_span-requires-clause-span c =
    let least : HasLeast c.args.self.now c.in-Some-Some.least = search rules in
    let greatest : HasGreatest c.args.self.now c.in-Some-Some.greatest = search rules in
    let least_fits : FitsSigned w64 c.in-Some-Some.least = search rules in
    let greatest_fits : FitsSigned w64 c.in-Some-Some.greatest = search rules in
    let low = simp to_z-of_z at c.span_of.ensures.low in
    let high = simp to_z-of_z at c.span_of.ensures.high in
    subst (λ (bag : Bag). IsSpanOf bag c.args.place c.span_of.result.low c.span_of.result.width) (sym c.self.view_is)
    (IsSpanOf-ends c.args.self.now c.args.place c.in-Some-Some.least c.in-Some-Some.greatest c.span_of.result.low
    c.span_of.result.width least greatest c.requires.first c.requires.last low high greatest_fits)
