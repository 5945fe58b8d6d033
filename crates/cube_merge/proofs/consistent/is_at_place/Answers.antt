use Rattle.std.proofs.Common.{◌∙◌, ap, get_or, sym}
use Rattle.cube_core.specs.declared.aggregate.Answer.TheVariants as answer
use Rattle.cube_lines.proofs.AnswerLaws.{Answer-eq}
use Rattle.cube_merge.proofs.consistent.is_at_place.Goals as goal

pub returns : goal.returns
returns c on =
    ap (λ place. get_or c.args.answers.now place answer.Null) (sym c.place_in.ensures)
    ∙ sym c.answer_or.ensures
    ∙ Answer-eq c.answer_or.result.now c.args.answer.now (sym c.eq.ensures ∙ on)
