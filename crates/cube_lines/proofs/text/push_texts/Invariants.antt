use Rattle.std.proofs.Common.{◌≡◌, ◌++◌, take}
use Rattle.cube_lines.specs.Parts.{parts}
use Rattle.cube_lines.proofs.text.push_texts.Given as goal

abbrev pub invariant-loop-field : goal.invariant-loop-field
invariant-loop-field l = l.text.items ≡ l.initial.text.items ++ parts (take l.field-index l.texts)
