use Rattle.std.proofs.Common.{◌≡◌, rules, FitsSigned, w64}
use Rattle.std.specs.Prelude.{◌<ℤ◌}
use Rattle.std.proofs.lemmas.Int.{to_z-of_z}
use Rattle.cube_values.specs.Bag.{held_of}
use Rattle.cube_values.proofs.OrderedLaws.{KeepsEnds-between, KeepsEnds-count}
use Rattle.cube_values.proofs.ordered.Ordered.keeps_ends.Goals as goal

pub returns-then-value-from : goal.returns-then-value-from
returns-then-value-from c =
    let fits : FitsSigned w64 c.args.value = c.ranges.value in
    let above : c.self.inside.least <ℤ c.args.value = search (rules, to_z-of_z) in
    let below : c.args.value <ℤ c.self.inside.greatest = search (rules, to_z-of_z) in
    rw (← c.self.view_is) (KeepsEnds-between c.self.inside.trace.bag c.self.inside.least c.self.inside.greatest
    c.args.value c.self.invariant.ends above below)

pub returns : goal.returns
returns c =
    let fits : FitsSigned w64 c.args.value = c.ranges.value in
    let count : c.count_of.result ≡ held_of c.args.self.now c.args.value = search (rules, to_z-of_z) in
    rw count (KeepsEnds-count c.args.self.now c.args.value)
