use Rattle.std.proofs.lemmas.Result.{IfOk-weaker}
use Rattle.cube_core.specs.Query.{matches}
use Rattle.cube_live.specs.Shows.{is_key}
use Rattle.cube_live.proofs.RowLaws.{AreRowsWhere-alike, matches-cell}
use Rattle.cube_live.proofs.rows.slice_rows.Goals as goal

pub returns-in-Ok : goal.returns-in-Ok
returns-in-Ok c =
    let pattern = c.args.pattern.now in
    let key = c.in-Ok.key in
    IfOk-weaker c.cell_rows.result _ _ (λ rows are. λ facts of.
    AreRowsWhere-alike (is_key key) (matches pattern) _ _ _ facts rows.items
    (λ other. matches-cell pattern key other c.in-Ok.ensures) (are facts of))
    c.cell_rows.ensures
