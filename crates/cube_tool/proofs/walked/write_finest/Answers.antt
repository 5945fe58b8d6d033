use Rattle.std.proofs.Common.{refl}
use Rattle.std.proofs.lemmas.Result.{err_from_is_err_and}
use Rattle.cube_tool.proofs.walked.write_finest.Goals as goal

pub returns-in_err-text : goal.returns-in_err-text
returns-in_err-text g c =
    let p = err_from_is_err_and c.from_residual.result c.from_residual.ensures.1 in
    rw (p.1, p.2) refl

pub returns-in_err-write : goal.returns-in_err-write
returns-in_err-write g c =
    let p = err_from_is_err_and c.from_residual-in_err-write.result c.from_residual-in_err-write.ensures.1 in
    rw (p.1, p.2) (record {
      text = c.in_ok-text.text;
      holds = c.in_ok-text.ensures;
      within = c.in_err-write.ensures.within;
      written = c.in_err-write.ensures.part;
    })

pub returns : goal.returns
returns g c = record {
  text = c.in_ok-text.text;
  holds = c.in_ok-text.ensures;
  written = c.in_ok-write.ensures.whole;
}
