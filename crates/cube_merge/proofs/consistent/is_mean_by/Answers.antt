use Rattle.std.proofs.Common.{◌<◌, ◌≡◌, true, length, rules, arith}
use Rattle.cube_merge.proofs.LawfulLaws.{AllZip-next}
use Rattle.cube_merge.specs.Lawful.{IsMeanByCount}
use Rattle.cube_merge.proofs.consistent.is_mean_by.Goals as goal

pub loop-place-preserved : goal.loop-place-preserved
loop-place-preserved c =
    let on : c.is_mean_by_count.result ≡ true = search rules in
    let inside : c.loop-place.place < length c.args.answers.now =
    omega (arith, c.loop-place-test.true, c.if-aggregates-answers.false) in
    AllZip-next (IsMeanByCount c.args.measure c.args.mean.now c.args.sum.now) c.args.aggregates.now c.args.answers.now c.loop-place.place _ _
    c.loop-place-test.true inside c.index-answers-place.is c.loop-place.invariant (c.is_mean_by_count.ensures on)
