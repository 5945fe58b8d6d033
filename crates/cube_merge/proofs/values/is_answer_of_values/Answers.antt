use Rattle.std.proofs.Common.{◌≡◌, ◌∙◌, ap, subst, sym}
use Rattle.cube_core.specs.Answer.{values_held}
use Rattle.cube_core.specs.declared.aggregate.Agg.{Agg}
use Rattle.cube_core.specs.declared.aggregate.Answer.{Answer}
use Rattle.cube_merge.specs.Values.{IsAnswerOf}
use Rattle.cube_merge.proofs.ValuesLaws.{AreValues-same}
use Rattle.cube_merge.proofs.values.is_answer_of_values.Goals as goal

pub returns-in-Values-Values : goal.returns-in-Values-Values
returns-in-Values-Values c on =
    rw (c.in-Values-Values.is-0, c.in-Values-Values.is-1)
    (AreValues-same c.args.listed.now c.in-Values-Values.other c.eq.result (rw c.as_slice.ensures at c.eq.ensures) on
    c.requires)
