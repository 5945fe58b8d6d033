use Rattle.std.proofs.Common.{◌∙◌, ap, sym}
use Rattle.std.proofs.lemmas.Result.{IfOk-weaker}
use Rattle.cube_core.specs.Query.{cell_of}
use Rattle.cube_live.specs.Request.{cell_by}
use Rattle.cube_live.proofs.parse.cell_from.Goals as goal

pub returns-in-Ok : goal.returns-in-Ok
returns-in-Ok c =
    IfOk-weaker c.unless_memory.result _ _
    (λ said is. is (cell_of c.in-Ok.pattern) c.cell.ensures ∙ ap cell_by (sym c.in-Ok.is ∙ c.in_ok-pattern.ensures))
    c.unless_memory.ensures

pub returns-in-Err : goal.returns-in-Err
returns-in-Err c = ap cell_by (sym c.in-Err.is ∙ c.in_ok-pattern.ensures)
