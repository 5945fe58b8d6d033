use Rattle.std.proofs.Common.{◌≡◌, ◌∙◌, sym, ap, pos, arith, rules, FitsSigned, w64, w32}
use Rattle.std.specs.Prelude.{◌<ℤ◌, ◌≤ℤ◌, ◌-ℤ◌}
use Rattle.std.proofs.lemmas.Int.{to_z-of_z, ints}
use Rattle.cube_values.specs.Bag.{Bag}
use Rattle.cube_values.specs.Statistics.{size_up_to}
use Rattle.cube_values.proofs.OrderedLaws.{held_of-up_to, held_of-outside, FitsSigned-before, before_is}
use Rattle.cube_values.proofs.ordered.Ordered.count_of.Goals.{
  then-value-from-via-then-value-from,
  then-value-from-via-else-value-from+then-from-value,
}
use Rattle.cube_values.proofs.ordered.Ordered.count_of.Goals as goal

pub returns-then-value-from : goal.returns-then-value-from
returns-then-value-from c =
    let fits : FitsSigned w64 c.args.value = c.ranges.value in
    let outside : c.self.inside.least ≤ℤ c.args.value → c.args.value ≤ℤ c.self.inside.greatest → ⊥ =
    elim c.then-value-from.branch [
      | then-value-from-via-then-value-from w ↦
          let less : c.args.value <ℤ c.self.inside.least = search (rules, to_z-of_z) in
          λ low high. omega (arith, ints, less, low)
      | then-value-from-via-else-value-from+then-from-value w ↦
          let more : c.self.inside.greatest <ℤ c.args.value = search (rules, to_z-of_z) in
          λ low high. omega (arith, ints, more, high)
    ] in
    rw (← c.self.view_is) (sym (held_of-outside c.self.inside.trace.bag c.self.inside.least c.self.inside.greatest
    c.args.value c.self.invariant.ends outside))

pub overflow_sub-result : goal.overflow_sub-result
overflow_sub-result c =
    let bag : Bag = c.args.self.now in
    let fits : FitsSigned w64 c.args.value = c.ranges.value in
    let least : FitsSigned w32 c.self.inside.least = search rules in
    let low : c.self.inside.least ≤ℤ c.args.value = search (rules, to_z-of_z) in
    let before : FitsSigned w64 (c.args.value -ℤ pos 1) =
    FitsSigned-before c.self.inside.least c.args.value least fits low in
    let first : c.up_to.result ≡ size_up_to bag c.args.value = search (rules, to_z-of_z) in
    let second : c.up_to-2.result ≡ size_up_to bag (c.args.value -ℤ pos 1) =
    c.up_to-2.ensures ∙ ap (size_up_to bag) (before_is c.args.value fits before) in
    omega (arith, first, second, held_of-up_to bag c.args.value)

pub returns : goal.returns
returns c =
    let bag : Bag = c.args.self.now in
    let fits : FitsSigned w64 c.args.value = c.ranges.value in
    let least : FitsSigned w32 c.self.inside.least = search rules in
    let low : c.self.inside.least ≤ℤ c.args.value = search (rules, to_z-of_z) in
    let before : FitsSigned w64 (c.args.value -ℤ pos 1) =
    FitsSigned-before c.self.inside.least c.args.value least fits low in
    let first : c.up_to.result ≡ size_up_to bag c.args.value = search (rules, to_z-of_z) in
    let second : c.up_to-2.result ≡ size_up_to bag (c.args.value -ℤ pos 1) =
    c.up_to-2.ensures ∙ ap (size_up_to bag) (before_is c.args.value fits before) in
    omega (arith, first, second, held_of-up_to bag c.args.value)
