use Rattle.std.proofs.Common.{◌∙◌, refl}
use Rattle.std.proofs.lemmas.Result.{err_from_is_err_and}
use Rattle.cube_core.specs.Query.{rolled_up}
use Rattle.cube_cells.specs.BaseCuboid.{cells_of_cuboid}
use Rattle.cube_ledger.specs.Ledger.{all_facts}
use Rattle.cube_live.specs.Shows.{is_key}
use Rattle.cube_tool.proofs.AnsweringLaws.{AreRowsTested, AreRowsWhere-key, Writes-rows, shapes}
use Rattle.cube_tool.proofs.CellFactLaws.{AreRowsWhere-cells, dimensions-cells}
use Rattle.cube_tool.proofs.walked.write_roll_up.Given.{Over}
use Rattle.cube_tool.proofs.walked.write_roll_up.Goals.{In_ok-rows}
use Rattle.cube_tool.proofs.walked.write_roll_up.Goals as goal

-- the cells have as many dimensions as the question says
pub roll_up-requires-clause-dim : goal.roll_up-requires-clause-dim
roll_up-requires-clause-dim g c =
    rw (dimensions-cells c.args.taken.now.ledger.schema (cells_of_cuboid c.cells-cells.result.now)
    c.cells-cells.ensures.has.schema) c.requires.0

pub roll_up-requires-clause-width : goal.roll_up-requires-clause-width
roll_up-requires-clause-width g c =
    rw (dimensions-cells c.args.taken.now.ledger.schema (cells_of_cuboid c.cells-cells.result.now)
    c.cells-cells.ensures.has.schema) c.requires.1

-- the rows are that of the rolled-up key, or none
are : (g : Over) (c : In_ok-rows g)
    → AreRowsTested (is_key (rolled_up c.args.dimension c.args.key.now)) c.args.taken.now.ledger.schema
    (all_facts c.args.taken.now.ledger.accounts) c.in_ok-rows.rows.items
are g c =
    let ledger = c.args.taken.now.ledger in
    AreRowsWhere-cells ledger.schema (all_facts ledger.accounts) (cells_of_cuboid c.cells-cells.result.now)
    c.cells-cells.ensures.has.schema c.cells-cells.ensures.has.has
    (is_key (rolled_up c.args.dimension c.args.key.now)) c.in_ok-rows.rows.items
    (λ counts all. rw c.in_ok-rows.ensures
    (AreRowsWhere-key _ _ _ _ _ c.in_ok-row.row (c.in_ok-row.ensures counts all)))

pub write_rows-requires : goal.write_rows-requires
write_rows-requires g c =
    let ledger = c.args.taken.now.ledger in
    rw (c.deref.ensures.value, c.schema.ensures.value ∙ c.refused.ensures.schema)
    (shapes (is_key (rolled_up c.args.dimension c.args.key.now)) ledger.schema ledger.schema
    (all_facts ledger.accounts) c.in_ok-rows.rows.items refl c.cells-cells.ensures.has.has.fit
    (are g (goal.at.write_rows-requires g c).In_ok-rows))

pub returns-in_err-row : goal.returns-in_err-row
returns-in_err-row g c =
    let p = err_from_is_err_and c.from_residual.result c.from_residual.ensures.1 in
    rw (p.1, p.2) refl

pub returns-in_err-rows : goal.returns-in_err-rows
returns-in_err-rows g c =
    let p = err_from_is_err_and c.from_residual-in_err-rows.result c.from_residual-in_err-rows.ensures.1 in
    rw (p.1, p.2) refl

pub returns : goal.returns
returns g c =
    let ledger = c.args.taken.now.ledger in
    Writes-rows c.write_rows.result _ _ (is_key (rolled_up c.args.dimension c.args.key.now)) ledger.schema
    ledger.schema (all_facts ledger.accounts) c.in_ok-rows.rows.items refl
    (are g (goal.at.returns g c).In_ok-rows)
    (rw (c.deref.ensures.value, c.schema.ensures.value ∙ c.refused.ensures.schema) at c.write_rows.ensures)
