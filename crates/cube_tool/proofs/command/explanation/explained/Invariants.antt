use Rattle.std.proofs.Common.{◌≡◌, take}
use Rattle.std.specs.Prelude.{option_map}
use Rattle.cube_tool.specs.Explain.{explained}
use Rattle.cube_tool.proofs.command.explanation.explained.Given as goal

abbrev pub invariant-loop-note : goal.invariant-loop-note
invariant-loop-note l = l.text.items ≡ explained (take l.note-index l.notes) (option_map (λ text. text.now) l.code)
