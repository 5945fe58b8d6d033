use Rattle.std.proofs.Common.{refl}
use Rattle.std.proofs.lemmas.Result.{err_from_is_err_and}
use Rattle.cube_tool.proofs.SessionLaws.{OfFeeds-broken, OfFeeds-served}
use Rattle.cube_tool.proofs.command.session.live.Goals as goal

pub returns-in_err-live-clause-err : goal.returns-in_err-live-clause-err
returns-in_err-live-clause-err g c =
    let p = err_from_is_err_and c.from_residual.result c.from_residual.ensures.1 in
    rw (p.1, p.2) (refl, record { why = c.in_err-live.field-0.0; is = refl; explains = c.in_err-live.ensures.err })

pub returns-in_err-serve_input-clause-err : goal.returns-in_err-serve_input-clause-err
returns-in_err-serve_input-clause-err g c =
    let p = err_from_is_err_and c.from_residual-in_err-serve_input.result c.from_residual-in_err-serve_input.ensures.1 in
    rw (p.1, p.2)
    (OfFeeds-broken c.in_ok-live.live _ c.in_err-serve_input.field-0.0 _ _ c.in_ok-live.ensures.schema
    c.in_ok-live.ensures.ok c.in_err-serve_input.ensures.err)

pub returns-clause-ok : goal.returns-clause-ok
returns-clause-ok g c =
    OfFeeds-served c.in_ok-live.live c.serve_input.new.live _ c.status_after.result _ _ c.in_ok-live.ensures.schema
    c.in_ok-live.ensures.ok
    (rw (
      c.serve_input.ensures.schema,
      c.in_ok-live.ensures.schema,
    ) at c.ledger.ensures.live) (rw c.ledger.ensures.value at c.status_after.ensures)
    c.in_ok-serve_input.ensures.ok
