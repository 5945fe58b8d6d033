use Rattle.std.proofs.Common.{length}
use Rattle.std.proofs.lemmas.Result.{IfOk-weaker}
use Rattle.cube_core.specs.Query.{rolled_up}
use Rattle.cube_live.proofs.RowLaws.{AreRowsWhere-IsRowOver, AreRowsWhere-none}
use Rattle.cube_live.proofs.rows.roll_up_rows.Goals as goal

pub returns-in-Some : goal.returns-in-Some
returns-in-Some c =
    let cube = c.args.cube.now in
    let over = rw c.in-Some.is at c.in_ok-row.ensures.cube in
    IfOk-weaker c.one_row.result _ _ (λ rows one. λ facts of.
    rw one (AreRowsWhere-IsRowOver cube.sets (length cube.schema.dimensions) cube.schema.aggregates facts
    (rolled_up c.args.dimension c.args.key.now) c.in-Some.row (over facts of)))
    c.one_row.ensures

pub returns-in-None : goal.returns-in-None
returns-in-None c =
    let cube = c.args.cube.now in
    let over = rw c.in-None.is at c.in_ok-row.ensures.cube in
    λ facts of. rw c.new.ensures.items
    (AreRowsWhere-none cube.sets (length cube.schema.dimensions) cube.schema.aggregates facts
    (rolled_up c.args.dimension c.args.key.now) (over facts of))
