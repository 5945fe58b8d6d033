use Rattle.std.proofs.Common.{ℤ, ◌∙◌, sym, arith, pos, rules, get_or, FitsSigned, w64, of_z, to_z, ap}
use Rattle.std.proofs.lemmas.Int.{to_z-of_z}
use Rattle.cube_values.proofs.OwedLaws.{times_in-yes, times_in-no, times_in-past}
use Rattle.cube_values.proofs.log.count_in.Goals.{then-number-value, else-number-value}
use Rattle.cube_values.proofs.log.count_in.Goals as goal

pub loop-number-preserved : goal.loop-number-preserved
loop-number-preserved c =
    let fits : FitsSigned w64 c.args.value = c.ranges.value in
    let number : ℤ = get_or c.args.numbers.now c.loop-number.number-index (pos 0) in
    let number_fits : FitsSigned w64 number = search rules in
    let kept = simp to_z-of_z at c.loop-number.invariant.1 in
    elim c.if-number-value.branch [
      | then-number-value w ↦ rw (w.count-is, to_z-of_z w64 c.args.value fits) (
        omega (arith, c.loop-number.invariant.0),
        times_in-yes c.args.numbers.now c.loop-number.number-index c.loop-number.count
            (pos 0) c.args.value c.loop-number-test.true (sym (to_z-of_z w64 number number_fits)
            ∙ ap (to_z w64) w.if-number-value.true ∙ to_z-of_z w64 c.args.value fits) kept,
      )
      | else-number-value w ↦ rw (w.count-is, to_z-of_z w64 c.args.value fits) (
        omega (arith, c.loop-number.invariant.0),
        times_in-no c.args.numbers.now c.loop-number.number-index c.loop-number.count
            (pos 0) c.args.value c.loop-number-test.true (λ same. w.if-number-value.false (ap (of_z w64) same)) kept,
      )
    ]

pub returns : goal.returns
returns c =
    let fits : FitsSigned w64 c.args.value = c.ranges.value in
    let kept = simp to_z-of_z at c.loop-number.invariant.1 in
    times_in-past c.args.numbers.now c.loop-number.number-index c.loop-number.count c.args.value
    c.loop-number-test.false kept
