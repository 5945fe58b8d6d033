use Rattle.std.proofs.Common.{refl, true}
use Rattle.std.proofs.lemmas.Result.{IfOk-weaker}
use Rattle.cube_cells.proofs.Rows.RowLaws.{AreRowsOver-IsCubeOf}
use Rattle.cube_cells.proofs.cube.rows.Cube.rows.Goals as goal

pub returns-clause-rows : goal.returns-clause-rows
returns-clause-rows c =
    IfOk-weaker c.rows_where.result _ _ (λ rows are. are (λ key. true) (λ codes valid eight. refl)) c.rows_where.ensures

pub returns-clause-cube : goal.returns-clause-cube
returns-clause-cube c = IfOk-weaker c.rows_where.result _ _
    (λ rows are. λ facts cube. AreRowsOver-IsCubeOf c.args.self.now facts rows.items cube
    (are (λ key. true) (λ codes valid eight. refl))) c.rows_where.ensures
