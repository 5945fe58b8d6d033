use Rattle.std.proofs.Common.{◌≡◌, ◌++◌, take}
use Rattle.cube_core.specs.Text.{answer_texts}
use Rattle.cube_lines.specs.Parts.{parts}
use Rattle.cube_text.specs.Rows.{answers_at}
use Rattle.cube_text.proofs.print.put_answers_at.Given as goal

abbrev pub invariant-loop-which : goal.invariant-loop-which
invariant-loop-which l = l.text.items ≡ l.initial.text.items
    ++ parts (answer_texts (take l.which l.digits) (take l.which (answers_at l.columns l.at)))
