use Rattle.std.proofs.Common.{◌++◌, ◌∙◌, List, ℕ, ap, subst, sym}
use Rattle.cube_core.specs.Printed.{IsPrinted}
use Rattle.cube_text.specs.Brief.{brief_text, rows_of}
use Rattle.cube_text.proofs.walked.print_walked.Goals as goal

pub returns : goal.returns
returns g c = λ facts all.
    let finest = c.args.cells.now in
    let shows = rw (c.deref.ensures.value, c.deref-2.ensures.value) at c.in_ok-put_pieces.ensures in
    let text = shows c.in_ok-shown.ensures in
    subst (IsPrinted finest.schema facts) (sym (text
    ∙ ap (λ (t : List ℕ). t ++ brief_text finest.dictionaries (rows_of c.in_ok-pieces.pieces.items))
    (rw c.schema.ensures.schema at c.in_ok-text.ensures)))
    (c.in_ok-pieces.ensures facts all)
