use Rattle.std.proofs.Common.{ℤ, ℕ, ◌≡◌, ◌+◌, ◌*◌, ◌∷◌, arith, rules, FitsSigned, w64}
use Rattle.std.proofs.lemmas.Int.{to_z-of_z}
use Rattle.cube_values.specs.Statistics.{one_up_to, size_up_to}
use Rattle.cube_values.proofs.BagLaws.{weight_of-cons}
use Rattle.cube_values.proofs.StatisticsLaws.{size_up_to-size_of}
use Rattle.cube_values.proofs.table.entries_up_to.Goals as goal

pub overflow_add-total : goal.overflow_add-total
overflow_add-total c =
    let fits : FitsSigned w64 c.args.value = c.ranges.value in
    let entry : ℤ × ℕ = (c.in-Some.number.now, c.in-Some.count.now) in
    let kept : c.loop-number.total + size_up_to (entry ∷ c.next.new.self) c.args.value
    ≡ size_up_to c.args.counts.now.entries c.args.value =
    rw c.in-Some.ensures.steps at (simp to_z-of_z at c.loop-number.invariant.2) in
    let part : c.pair_up_to-total.result ≡ one_up_to c.args.value entry.0 * entry.1 = search (rules, to_z-of_z) in
    omega (
      arith,
      kept,
      part,
      c.requires,
      weight_of-cons (one_up_to c.args.value) entry c.next.new.self,
      size_up_to-size_of c.args.counts.now.entries c.args.value,
    )

pub loop-number-preserved : goal.loop-number-preserved
loop-number-preserved c =
    let fits : FitsSigned w64 c.args.value = c.ranges.value in
    let entry : ℤ × ℕ = (c.in-Some.number.now, c.in-Some.count.now) in
    let kept : c.loop-number.total + size_up_to (entry ∷ c.next.new.self) c.args.value
    ≡ size_up_to c.args.counts.now.entries c.args.value =
    rw c.in-Some.ensures.steps at (simp to_z-of_z at c.loop-number.invariant.2) in
    let part : c.pair_up_to-total.result ≡ one_up_to c.args.value entry.0 * entry.1 = search (rules, to_z-of_z) in (
      tt,
      tt,
      rw (to_z-of_z w64 c.args.value fits)
          (omega (arith, kept, part, weight_of-cons (one_up_to c.args.value) entry c.next.new.self)),
    )
