use Rattle.std.proofs.Common.{refl}
use Rattle.std.proofs.lemmas.Result.{err_from_is_err_and}
use Rattle.cube_tool.specs.declared.question.Question.TheVariants.{Cube}
use Rattle.cube_tool.proofs.AnsweringLaws.{Leaves-feeding, Leaves-text}
use Rattle.cube_tool.proofs.RunLaws.{OfFeeds-BuildsParts}
use Rattle.cube_tool.proofs.runs.run.Goals as goal

pub returns-in_err-built-clause-err : goal.returns-in_err-built-clause-err
returns-in_err-built-clause-err g c =
    let p = err_from_is_err_and c.from_residual.result c.from_residual.ensures.1 in
    rw (p.1, p.2) (Leaves-feeding Cube _ _ c.in_err-built.field-0.0 _ _ refl c.in_err-built.ensures.err)

pub returns-in_err-write_cube-clause-err : goal.returns-in_err-write_cube-clause-err
returns-in_err-write_cube-clause-err g c =
    let p = err_from_is_err_and c.from_residual-in_err-write_cube.result c.from_residual-in_err-write_cube.ensures.1 in
    rw (p.1, p.2) (Leaves-text Cube c.in_err-write_cube.field-0.0 _ _ c.has_builder.ensures c.in_ok-built.ensures.ok
    c.in_err-write_cube.ensures)

pub returns-clause-ok : goal.returns-clause-ok
returns-clause-ok g c = OfFeeds-BuildsParts c.has_builder.ensures c.in_ok-built.ensures.ok c.in_ok-write_cube.ensures
