use Rattle.std.proofs.Common.{◌∙◌, refl}
use Rattle.std.proofs.lemmas.Result.{err_from_is_err_and}
use Rattle.cube_core.specs.Query.{matches}
use Rattle.cube_cells.specs.BaseCuboid.{cells_of_cuboid}
use Rattle.cube_ledger.specs.Ledger.{all_facts}
use Rattle.cube_tool.proofs.AnsweringLaws.{AreRowsTested, Writes-rows, shapes}
use Rattle.cube_tool.proofs.CellFactLaws.{AreRowsWhere-cells}
use Rattle.cube_tool.proofs.walked.write_slice.Given.{Over}
use Rattle.cube_tool.proofs.walked.write_slice.Goals.{In_ok-rows}
use Rattle.cube_tool.proofs.walked.write_slice.Goals as goal

-- the rows are those that the pattern matches
are : (g : Over) (c : In_ok-rows g) → AreRowsTested (matches c.args.pattern.now) c.args.taken.now.ledger.schema
    (all_facts c.args.taken.now.ledger.accounts) c.in_ok-rows.rows.items
are g c =
    let ledger = c.args.taken.now.ledger in
    AreRowsWhere-cells ledger.schema (all_facts ledger.accounts) (cells_of_cuboid c.cells-cells.result.now)
    c.cells-cells.ensures.has.schema c.cells-cells.ensures.has.has (matches c.args.pattern.now)
    c.in_ok-rows.rows.items c.in_ok-rows.ensures

pub write_rows-requires : goal.write_rows-requires
write_rows-requires g c =
    let ledger = c.args.taken.now.ledger in
    rw (c.deref.ensures.value, c.schema.ensures.value ∙ c.refused.ensures.schema)
    (shapes (matches c.args.pattern.now) ledger.schema ledger.schema (all_facts ledger.accounts)
    c.in_ok-rows.rows.items refl c.cells-cells.ensures.has.has.fit
    (are g (goal.at.write_rows-requires g c).In_ok-rows))

pub returns-in_err-rows : goal.returns-in_err-rows
returns-in_err-rows g c =
    let p = err_from_is_err_and c.from_residual.result c.from_residual.ensures.1 in
    rw (p.1, p.2) refl

pub returns : goal.returns
returns g c =
    let ledger = c.args.taken.now.ledger in
    Writes-rows c.write_rows.result _ _ (matches c.args.pattern.now) ledger.schema ledger.schema
    (all_facts ledger.accounts) c.in_ok-rows.rows.items refl (are g (goal.at.returns g c).In_ok-rows)
    (rw (c.deref.ensures.value, c.schema.ensures.value ∙ c.refused.ensures.schema) at c.write_rows.ensures)
