use Rattle.std.proofs.Common.{refl}
use Rattle.std.proofs.lemmas.Result.{err_from_is_err_and}
use Rattle.cube_tool.specs.declared.question.Question.TheVariants.{Cube}
use Rattle.cube_tool.proofs.AnsweringLaws.{Leaves-build, Leaves-plain_text}
use Rattle.cube_tool.proofs.RunLaws.{OfFeeds-BuildsWhole}
use Rattle.cube_tool.proofs.runs.run_plain.Goals as goal

pub returns-in_err-builder-clause-err : goal.returns-in_err-builder-clause-err
returns-in_err-builder-clause-err g c =
    let p = err_from_is_err_and c.from_residual.result c.from_residual.ensures.1 in
    rw (p.1, p.2) (Leaves-build Cube _ _ c.in_err-builder.field-0.0 _ _ refl c.in_err-builder.ensures.err)

pub returns-in_err-write_plain_cube-clause-err : goal.returns-in_err-write_plain_cube-clause-err
returns-in_err-write_plain_cube-clause-err g c =
    let p = err_from_is_err_and c.from_residual-in_err-write_plain_cube.result
    c.from_residual-in_err-write_plain_cube.ensures.1 in
    rw (p.1, p.2) (Leaves-plain_text Cube _ _ _ c.in_ok-builder.ensures.ok c.in_err-write_plain_cube.ensures)

pub returns-clause-ok : goal.returns-clause-ok
returns-clause-ok g c = OfFeeds-BuildsWhole c.in_ok-builder.ensures.ok c.in_ok-write_plain_cube.ensures
