use Rattle.std.proofs.Common.{refl}
use Rattle.std.proofs.lemmas.Result.{err_from_is_err_and}
use Rattle.cube_core.specs.Query.{rolled_up}
use Rattle.cube_live.specs.Shows.{is_key}
use Rattle.cube_build.specs.Parts.{AreRowsOfRun, facts_of_run, schema_of_run}
use Rattle.cube_tool.proofs.AnsweringLaws.{AreRowsWhere-key, Writes-rows, shapes}
use Rattle.cube_tool.proofs.answers.write_roll_up.Given.{Over}
use Rattle.cube_tool.proofs.answers.write_roll_up.Goals.{In_ok-rows}
use Rattle.cube_tool.proofs.answers.write_roll_up.Goals as goal

-- the rows are that of the rolled-up key, or none
are : (g : Over) (c : In_ok-rows g)
    → AreRowsOfRun (is_key (rolled_up c.args.dimension c.args.key.now)) c.args.built.now c.in_ok-rows.rows.items
are g c = rw c.in_ok-rows.ensures (AreRowsWhere-key _ _ _ _ _ c.in_ok-row.row c.in_ok-row.ensures)

pub write_rows-requires : goal.write_rows-requires
write_rows-requires g c =
    rw c.deref.ensures.value (shapes (is_key (rolled_up c.args.dimension c.args.key.now))
    (schema_of_run c.args.built.now) c.args.schema.now (facts_of_run c.args.built.now) c.in_ok-rows.rows.items
    c.requires.schema c.facts_fit.ensures (are g (goal.at.write_rows-requires g c).In_ok-rows))

pub returns-in_err-row : goal.returns-in_err-row
returns-in_err-row g c =
    let p = err_from_is_err_and c.from_residual.result c.from_residual.ensures.1 in
    rw (p.1, p.2) refl

pub returns-in_err-rows : goal.returns-in_err-rows
returns-in_err-rows g c =
    let p = err_from_is_err_and c.from_residual-in_err-rows.result c.from_residual-in_err-rows.ensures.1 in
    rw (p.1, p.2) refl

pub returns : goal.returns
returns g c =
    Writes-rows c.write_rows.result _ _ (is_key (rolled_up c.args.dimension c.args.key.now))
    (schema_of_run c.args.built.now) c.args.schema.now (facts_of_run c.args.built.now) c.in_ok-rows.rows.items
    c.requires.schema (are g (goal.at.returns g c).In_ok-rows) (rw c.deref.ensures.value at c.write_rows.ensures)
