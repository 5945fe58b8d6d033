use Rattle.std.proofs.Common.{◌≡◌, ◌≤◌, ◌+◌, ◌^◌, ap, arith, get_or, sym, take}
use Rattle.cube_core.specs.Merged.{squares_among, sum_of_squares}
use Rattle.cube_merge.specs.Lawful.{squares_answered}
use Rattle.cube_merge.proofs.SquaresLaws.{IsSumOfAll-answered, sum_of_squares-within}
use Rattle.cube_merge.proofs.gather.squares_of.Goals as goal

pub returns-in_default-clause-err : goal.returns-in_default-clause-err
returns-in_default-clause-err c fits =
    let answers = c.args.answers.now in
    let place = c.loop-place.place in
    let made = c.loop-place.made in
    let next = c.index-answers-place.result in
    let so_far : sum_of_squares (take place answers) ≡ squares_answered made =
    IsSumOfAll-answered (squares_among (take place answers)) made c.loop-place.invariant.made in
    let is : squares_answered (get_or answers place next) ≡ squares_answered next =
    ap squares_answered (sym c.index-answers-place.is) in
    let over : 2 ^ 192 ≤ squares_answered made + squares_answered next = c.in_default.ensures.none in
    omega (arith, fits, so_far, is, over, sum_of_squares-within answers place next c.loop-place-test.true)
