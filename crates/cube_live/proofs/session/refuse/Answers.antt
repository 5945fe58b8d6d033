use Rattle.std.proofs.lemmas.Result.{err_from_is_err_and}
use Rattle.cube_live.specs.Keeping.{EndsIn, made_sure}
use Rattle.cube_live.proofs.KeepingLaws as laws
use Rattle.cube_live.proofs.session.refuse.Goals as goal

pub returns-in_err-settle-clause-err_kept : goal.returns-in_err-settle-clause-err_kept
returns-in_err-settle-clause-err_kept g c =
    let p = err_from_is_err_and c.from_residual.result c.from_residual.ensures.1 in
    rw (p.1, p.2) (laws.EndsIn-unsettled g.J.Journal.keeps g.J.Journal.breaks c.in_err-settle.field-0.0
    c.args.journal.now c.settle.new.journal c.in_err-settle.ensures.fault c.in_err-settle.ensures.err_kept)

pub returns-clause-kept : goal.returns-clause-kept
returns-clause-kept g c = laws.OnOk-always c.write_reply.result c.in_ok-settle.ensures.kept

pub returns-clause-err_kept : goal.returns-clause-err_kept
returns-clause-err_kept g c = laws.IfErr-always c.write_reply.result
    (λ fault. EndsIn g.J.Journal.keeps g.J.Journal.breaks fault c.args.journal.now made_sure c.settle.new.journal)
    (λ fault. laws.EndsIn-taken g.J.Journal.keeps g.J.Journal.breaks fault c.args.journal.now made_sure
    c.settle.new.journal c.in_ok-settle.ensures.kept)
