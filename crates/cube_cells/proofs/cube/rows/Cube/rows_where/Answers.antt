use Rattle.std.proofs.lemmas.Result.{IfOk-weaker}
use Rattle.cube_cells.proofs.cube.rows.Cube.rows_where.Goals as goal

pub returns : goal.returns
returns c = IfOk-weaker c.rows-2.result _ _
    (λ rows in_order. λ test are. c.in_ok-ordered_where.ensures.rows test are rows.items in_order) c.rows-2.ensures
