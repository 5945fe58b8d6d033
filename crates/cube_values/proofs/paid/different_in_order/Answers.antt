use Rattle.std.proofs.Common.{ℤ, List, ◌<◌, pos, length, arith, rules}
use Rattle.cube_values.proofs.OrderedLaws.{HasDifferent-place, HasDifferent-same}
use Rattle.cube_values.proofs.paid.different_in_order.Goals.{then-is_new, else-is_new}
use Rattle.cube_values.proofs.paid.different_in_order.Goals as goal

pub loop-place-preserved : goal.loop-place-preserved
loop-place-preserved c =
    let numbers : List ℤ = c.args.numbers.now in
    let within : c.loop-place.place < length numbers = search rules in
    elim c.if-is_new.branch [
      | then-is_new w ↦
          let none = (rw w.if-is_new.true at c.is_new.ensures.new) (pos 0) in
          rw w.count-is (
            HasDifferent-place numbers c.loop-place.place c.loop-place.count (pos 0) within none
                c.loop-place.invariant.0,
            omega (arith, c.loop-place.invariant.1),
          )
      | else-is_new w ↦
          let some = (rw w.if-is_new.false at c.is_new.ensures.seen) (pos 0) in
          rw w.count-is (
            HasDifferent-same numbers c.loop-place.place c.loop-place.count (pos 0) within some
                c.loop-place.invariant.0,
            omega (arith, c.loop-place.invariant.1),
          )
    ]
