use Rattle.std.proofs.Common.{◌≡◌, map, take}
use Rattle.cube_core.proofs.text.texts_from_strs.Given as goal

abbrev pub invariant-loop-text : goal.invariant-loop-text
invariant-loop-text l = l.copies.items ≡ map (λ text. text.now) (take l.text-index l.texts)
