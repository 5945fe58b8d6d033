use Rattle.std.proofs.Common.{◌≡◌, take}
use Rattle.cube_core.proofs.text.copy_texts.Given as goal

abbrev pub invariant-loop-text : goal.invariant-loop-text
invariant-loop-text l = l.copies.items ≡ take l.text-index l.texts
