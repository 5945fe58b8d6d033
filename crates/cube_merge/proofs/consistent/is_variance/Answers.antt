use Rattle.std.proofs.Common.{◌≡◌, ◌∙◌, sym}
use Rattle.cube_lines.proofs.AnswerLaws.{Answer-eq}
use Rattle.cube_merge.proofs.LawfulLaws.{IsVarianceBeside-at, IsVarianceBeside-no_count, IsVarianceBeside-no_sum}
use Rattle.cube_merge.proofs.LawfulLaws.{IsVarianceBeside-no_squares}
use Rattle.cube_merge.proofs.consistent.is_variance.Goals as goal

pub returns-in_default : goal.returns-in_default
returns-in_default c on alike =
    IsVarianceBeside-no_count c.args.is_sample c.args.aggregates.now c.args.answers.now c.args.measure
    c.args.variance.now c.in_default.ensures.none

pub returns-in_default-place_of : goal.returns-in_default-place_of
returns-in_default-place_of c on alike =
    IsVarianceBeside-no_sum c.args.is_sample c.args.aggregates.now c.args.answers.now c.args.measure
    c.args.variance.now c.in_default-place_of.ensures.none

pub returns-in_default-place_of-2 : goal.returns-in_default-place_of-2
returns-in_default-place_of-2 c on alike =
    IsVarianceBeside-no_squares c.args.is_sample c.args.aggregates.now c.args.answers.now c.args.measure
    c.args.variance.now c.in_default-place_of-2.ensures.none

pub returns : goal.returns
returns c on alike =
    let same : c.args.variance.now ≡ c.variance_of.result =
    Answer-eq c.args.variance.now c.variance_of.result (sym c.eq.ensures ∙ on) in
    rw same
    (IsVarianceBeside-at c.args.is_sample c.args.aggregates.now c.args.answers.now c.args.measure c.variance_of.result
    c.in-Some.counts c.in-Some-place_of.sums c.in-Some-place_of-2.squares alike c.in-Some.ensures.some
    c.in-Some-place_of.ensures.some c.in-Some-place_of-2.ensures.some
    (rw (c.answer_or.ensures, c.answer_or-2.ensures, c.answer_or-3.ensures) at c.variance_of.ensures))
