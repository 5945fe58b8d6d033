use Rattle.cube_text.proofs.ShownLaws.{AreShownBelow}
use Rattle.cube_text.proofs.shown.shown_texts.Given as goal

abbrev pub invariant-loop-place : goal.invariant-loop-place
invariant-loop-place l = AreShownBelow l.texts l.place l.parts.items
