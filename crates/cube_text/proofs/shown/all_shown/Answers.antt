use Rattle.cube_text.proofs.ShownLaws.{AllShownBelow-more}
use Rattle.cube_text.proofs.shown.all_shown.Goals as goal

pub loop-dimension-preserved : goal.loop-dimension-preserved
loop-dimension-preserved g c = rw c.in_ok-push.ensures.items
    (AllShownBelow-more c.args.cells.now.dictionaries c.loop-dimension.dimension c.loop-dimension.shown.items
    c.in_ok-shown_texts.field-0 c.loop-dimension.invariant (rw c.texts.ensures at c.in_ok-shown_texts.ensures))
