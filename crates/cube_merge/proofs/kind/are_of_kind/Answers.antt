use Rattle.std.proofs.Common.{◌<◌, ◌≡◌, true, length, rules, arith}
use Rattle.cube_merge.proofs.LawfulLaws.{AllZip-next}
use Rattle.cube_merge.specs.Lawful.{IsOfKind}
use Rattle.cube_merge.proofs.kind.are_of_kind.Goals as goal

pub loop-place-preserved : goal.loop-place-preserved
loop-place-preserved c =
    let on : c.is_of_kind.result ≡ true = search rules in
    let inside : c.loop-place.place < length c.args.answers.now =
    omega (arith, c.loop-place-test.true, c.if-aggregates-answers.false) in
    AllZip-next IsOfKind c.args.aggregates.now c.args.answers.now c.loop-place.place _ _ c.loop-place-test.true inside c.index-answers-place.is
    c.loop-place.invariant (c.is_of_kind.ensures on)
