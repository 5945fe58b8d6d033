use Rattle.std.proofs.Common.{ap, arith, pos, FitsSigned, w64}
use Rattle.std.proofs.lemmas.Int.{to_z-of_z}
use Rattle.std.proofs.lemmas.List.{drop_all}
use Rattle.cube_values.specs.Bag.{Bag}
use Rattle.cube_values.specs.Statistics.{one_up_to, size_up_to}
use Rattle.cube_values.proofs.BagLaws.{weight_of-drop_more}
use Rattle.cube_values.proofs.StatisticsLaws.{size_up_to-size_of}
use Rattle.cube_values.proofs.up_to.pairs_up_to.Goals as goal

pub overflow_add-count : goal.overflow_add-count
overflow_add-count c =
    let fits : FitsSigned w64 c.args.value = c.ranges.value in
    let kept = simp to_z-of_z at c.loop-pair.invariant in
    let part = simp to_z-of_z at c.pair_up_to-count.ensures in
    omega (
      arith,
      kept,
      part,
      c.requires,
      weight_of-drop_more (one_up_to c.args.value) c.args.pairs.now c.loop-pair.pair-index (pos 0, 0)
          c.loop-pair-test.true,
      size_up_to-size_of c.args.pairs.now c.args.value,
    )

pub returns : goal.returns
returns c =
    let fits : FitsSigned w64 c.args.value = c.ranges.value in
    let kept = simp to_z-of_z at c.loop-pair.invariant in
    let none = ap (λ (bag : Bag). size_up_to bag c.args.value)
    (drop_all c.loop-pair.pair-index c.args.pairs.now c.loop-pair-test.false) in
    omega (arith, kept, none)
