use Rattle.std.proofs.Common.{ℤ, List, get_or, ◌≡◌, ◌*◌, ap, arith, pos, rules, FitsSigned, w64}
use Rattle.std.proofs.lemmas.Int.{to_z-of_z}
use Rattle.std.proofs.lemmas.List.{drop_all}
use Rattle.cube_values.specs.Narrow.{once_each}
use Rattle.cube_values.specs.Statistics.{one_up_to, size_up_to}
use Rattle.cube_values.proofs.StatisticsLaws.{one_up_to-size, size_up_to-drop_once}
use Rattle.cube_values.proofs.up_to.any_up_to.Goals as goal

pub loop-number-preserved : goal.loop-number-preserved
loop-number-preserved c =
    let fits : FitsSigned w64 c.args.value = c.ranges.value in
    let number : ℤ = get_or c.args.numbers.now c.loop-number.number-index (pos 0) in
    let part : c.pair_up_to-count.result ≡ one_up_to c.args.value number * 1 = search (rules, to_z-of_z) in
    let kept = simp to_z-of_z at c.loop-number.invariant.1 in
    rw (to_z-of_z w64 c.args.value fits) (
      omega (arith, c.loop-number.invariant.0, part, one_up_to-size c.args.value number),
      omega (
        arith,
        kept,
        part,
        size_up_to-drop_once c.args.numbers.now c.loop-number.number-index (pos 0) c.args.value
            c.loop-number-test.true,
      ),
    )

pub returns : goal.returns
returns c =
    let fits : FitsSigned w64 c.args.value = c.ranges.value in
    let kept = simp to_z-of_z at c.loop-number.invariant.1 in
    let none = ap (λ (l : List ℤ). size_up_to (once_each l) c.args.value)
    (drop_all c.loop-number.number-index c.args.numbers.now c.loop-number-test.false) in
    omega (arith, kept, none)
