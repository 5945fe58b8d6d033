use Rattle.std.proofs.Common.{refl, true}
use Rattle.std.proofs.lemmas.Result.{IfOk-weaker}
use Rattle.cube_cells.proofs.Rows.RowLaws.{AreRowsOver-IsCubeOf}
use Rattle.cube_cells.proofs.cube.rows.Cube.ordered.Goals as goal

pub returns-clause-rows : goal.returns-clause-rows
returns-clause-rows c = IfOk-weaker c.ordered_where.result _ _
    (λ ordered are. are (λ key. true) (λ codes valid eight. refl)) c.ordered_where.ensures.rows

pub returns-clause-cube : goal.returns-clause-cube
returns-clause-cube c = IfOk-weaker c.ordered_where.result _ _
    (λ ordered are. λ rows in_order facts cube. AreRowsOver-IsCubeOf c.args.self.now facts rows cube
    (are (λ key. true) (λ codes valid eight. refl) rows in_order)) c.ordered_where.ensures.rows
