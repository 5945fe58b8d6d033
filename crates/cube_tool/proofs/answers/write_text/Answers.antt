use Rattle.std.proofs.Common.{refl}
use Rattle.std.proofs.lemmas.Result.{err_from_is_err_and}
use Rattle.cube_tool.proofs.answers.write_text.Goals as goal

pub returns-in_err-write_whole : goal.returns-in_err-write_whole
returns-in_err-write_whole g c =
    let p = err_from_is_err_and c.from_residual.result c.from_residual.ensures.1 in
    rw (p.1, p.2) (record {
      text = c.args.text.now;
      holds = refl;
      within = c.in_err-write_whole.ensures.within;
      written = c.in_err-write_whole.ensures.part;
    })

pub returns : goal.returns
returns g c = record { text = c.args.text.now; holds = refl; written = c.in_ok-write_whole.ensures.whole }
