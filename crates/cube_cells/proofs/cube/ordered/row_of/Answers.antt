use Rattle.std.proofs.Common.{◌≡◌, ◌<◌, take, get_or, length, arith, refl}
use Rattle.std.proofs.lemmas.List.{take_all, take_more}
use Rattle.cube_core.specs.Answer.{IsAnswer}
use Rattle.cube_core.specs.declared.aggregate.Agg.TheVariants.{CountAll}
use Rattle.cube_core.proofs.ListLaws.{AllZip-push}
use Rattle.cube_cells.proofs.cube.ordered.row_of.Goals as goal

pub loop-aggregate-preserved : goal.loop-aggregate-preserved
loop-aggregate-preserved g c =
    let i = c.loop-aggregate.aggregate-index in
    let aggregates = c.args.aggregates.now in
    let inside : i < length aggregates = omega arith in
    λ facts tally. rw (c.in_ok-push.ensures.items, take_more aggregates i CountAll inside)
    (AllZip-push (IsAnswer facts) (take i aggregates) c.loop-aggregate.answers.items (get_or aggregates i CountAll)
    c.in_ok-try_answer.field-0 (c.loop-aggregate.invariant facts tally) (c.in_ok-try_answer.ensures facts tally))

pub loop-aggregate-init : goal.loop-aggregate-init
loop-aggregate-init g c =
    λ facts tally. rw c.in_ok-answers.ensures.items tt

pub returns : goal.returns
returns g c =
    let i = c.loop-aggregate.aggregate-index in
    let all : take i c.args.aggregates.now ≡ c.args.aggregates.now = take_all i c.args.aggregates.now (omega arith) in
    record { key = refl; answers = rw c.from_vec.ensures (rw all at c.loop-aggregate.invariant) }
