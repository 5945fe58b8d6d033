use Rattle.std.proofs.Common.{refl}
use Rattle.std.proofs.lemmas.Result.{err_from_is_err_and}
use Rattle.cube_core.specs.Query.{matches}
use Rattle.cube_build.specs.Parts.{facts_of_run, schema_of_run}
use Rattle.cube_tool.proofs.AnsweringLaws.{Writes-rows, shapes}
use Rattle.cube_tool.proofs.answers.write_slice.Goals as goal

pub write_rows-requires : goal.write_rows-requires
write_rows-requires g c =
    rw c.deref.ensures.value (shapes (matches c.args.pattern.now) (schema_of_run c.args.built.now) c.args.schema.now
    (facts_of_run c.args.built.now) c.in_ok-rows.rows.items c.requires c.facts_fit.ensures c.in_ok-rows.ensures)

pub returns-in_err-rows : goal.returns-in_err-rows
returns-in_err-rows g c =
    let p = err_from_is_err_and c.from_residual.result c.from_residual.ensures.1 in
    rw (p.1, p.2) refl

pub returns : goal.returns
returns g c =
    Writes-rows c.write_rows.result _ _ (matches c.args.pattern.now) (schema_of_run c.args.built.now) c.args.schema.now
    (facts_of_run c.args.built.now) c.in_ok-rows.rows.items c.requires c.in_ok-rows.ensures
    (rw c.deref.ensures.value at c.write_rows.ensures)
