use Rattle.std.proofs.Common.{◌≡◌, ◌++◌, arith, rules, w64, to_z, of_z}
use Rattle.std.proofs.lemmas.Int.{to_z-of_z}
use Rattle.cube_values.specs.Bag.{Bag}
use Rattle.cube_values.proofs.SummaryLaws.{size_of-append}
use Rattle.cube_values.proofs.summary.Summary.include.Goals as goal

pub invariant_of-self : goal.invariant_of-self
invariant_of-self c =
    let old : Bag = c.self.inside.trace.bag in
    let more : Bag = c.more.inside.trace.bag in
    let bag : c.and-self-inside.result.bag ≡ old ++ more = search rules in
    let low : to_z w64 (of_z w64 c.ends_of-least.result.0) ≡ c.ends_of-least.result.0 = search (rules, to_z-of_z) in
    let high : to_z w64 (of_z w64 c.ends_of-least.result.1) ≡ c.ends_of-least.result.1 = search (rules, to_z-of_z) in
    rw (bag, low, high) (record {
      size = omega (arith, c.self.invariant.size, c.more.invariant.size, size_of-append old more);
      ends = rw (c.self.view_is, c.more.view_is) c.ends_of-least.ensures;
    })
