use Rattle.cube_text.proofs.ShownLaws.{AreShownBelow-more}
use Rattle.cube_text.proofs.shown.shown_texts.Goals as goal

pub loop-place-preserved : goal.loop-place-preserved
loop-place-preserved c = rw c.in_ok-push.ensures.items
    (AreShownBelow-more c.args.texts.now c.loop-place.place c.loop-place.parts.items c.in_ok-part_of.field-0
    c.loop-place.invariant (rw c.text.ensures at c.in_ok-part_of.ensures))

pub returns : goal.returns
returns c = record { each = c.loop-place.invariant.each }
