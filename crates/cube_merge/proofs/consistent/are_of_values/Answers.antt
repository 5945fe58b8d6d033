use Rattle.std.proofs.Common.{◌<◌, ◌≡◌, true, length, rules, arith}
use Rattle.cube_merge.proofs.LawfulLaws.{AllZip-get, AllZip-next}
use Rattle.cube_merge.specs.Lawful.{IsListAmong, IsOfKind}
use Rattle.cube_merge.proofs.consistent.are_of_values.Goals as goal

pub is_list_among-requires : goal.is_list_among-requires
is_list_among-requires c =
    let inside : c.loop-place.place < length c.args.answers.now =
    omega (arith, c.loop-place-test.true, c.if-aggregates-answers.false) in
    AllZip-get IsOfKind c.args.aggregates.now c.args.answers.now c.loop-place.place _ _ c.loop-place-test.true inside
    c.index-answers-place.is c.requires

pub loop-place-preserved : goal.loop-place-preserved
loop-place-preserved c =
    let on : c.is_list_among.result ≡ true = search rules in
    let inside : c.loop-place.place < length c.args.answers.now =
    omega (arith, c.loop-place-test.true, c.if-aggregates-answers.false) in
    AllZip-next (IsListAmong c.args.aggregates.now c.args.answers.now) c.args.aggregates.now c.args.answers.now
    c.loop-place.place _ _ c.loop-place-test.true inside c.index-answers-place.is c.loop-place.invariant (c.is_list_among.ensures on)
