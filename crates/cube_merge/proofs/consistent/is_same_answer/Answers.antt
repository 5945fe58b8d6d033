use Rattle.std.proofs.Common.{◌∙◌, sym}
use Rattle.cube_lines.proofs.AnswerLaws.{Answer-eq}
use Rattle.cube_merge.proofs.consistent.is_same_answer.Goals as goal

pub returns-else-ne : goal.returns-else-ne
returns-else-ne c on same = Answer-eq c.args.its_answer.now c.args.answer.now (sym c.eq.ensures ∙ on)
