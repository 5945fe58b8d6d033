use Rattle.std.proofs.Common.{refl}
use Rattle.cube_store.specs.Calls.{IsntStarted}
use Rattle.cube_store.specs.Codes.{IsToldOf, TellsFailedCall}
use Rattle.cube_store.specs.Rows.{entries_of}
use Rattle.cube_store_commands.proofs.SessionLaws as laws
use Rattle.cube_store_commands.proofs.live_session.live_stored.Goals as goal

pub returns-in-Err-clause-err : goal.returns-in-Err-clause-err
returns-in-Err-clause-err g c = rw c.from.ensures
    (λ clean. (refl, record { why = c.in-Err.fault; is = refl; explains = c.in-Err.ensures.err }, λ db may. may))

pub returns-in-Ok-served-clause-ok : goal.returns-in-Ok-served-clause-ok
returns-in-Ok-served-clause-ok g c =
    rw c.into_journal.ensures (laws.OfFeeds-served (g.S.Store.view c.args.feeds.store)
    (entries_of c.args.feeds.notes.items)
    (g.S.Store.recovers c.in-Ok-served.journal.store) (g.W.Write.contents c.args.out.now)
    (g.W.Write.contents c.serve_stored-served.new.out)
    c.in-Ok.live c.in-Ok.ensures.ok c.in-Ok-served.live
    (g.S.Store.view c.in-Ok-served.journal.store)
    c.status_after.result _ _ c.in-Ok.ensures.schema c.ledger.ensures.live
    (rw c.ledger.ensures.value at c.status_after.ensures)
    (rw c.new-records.ensures.left at c.in-Ok-served.ensures.schema)
    (rw (c.new-records.ensures.left, c.deref.ensures.value) at c.in-Ok-served.ensures.ok))

pub returns-clause-err : goal.returns-clause-err
returns-clause-err g c = rw c.from-in-Err-served.ensures
    (laws.FailsToServeStored-failed (g.S.Store.view c.args.feeds.store)
    (entries_of c.args.feeds.notes.items) (g.S.Store.recovers c.in-Err-served.store)
    (g.W.Write.contents c.args.out.now) (g.W.Write.contents c.serve_stored-served.new.out)
    c.in-Ok.live c.in-Ok.ensures.ok (g.S.Store.recovers c.args.feeds.store)
    c.in-Err-served.fault _ _ c.in-Ok.ensures.schema
    (rw (c.new-records.ensures.left, c.deref.ensures.value) at c.in-Err-served.ensures.err))

pub returns-in-Err-clause-unwritten : goal.returns-in-Err-clause-unwritten
returns-in-Err-clause-unwritten g c = rw c.from.ensures
    (laws.FailsUnwritten-unopened c.in-Err.fault (g.W.Write.contents c.args.out.now))

pub returns-clause-unwritten : goal.returns-clause-unwritten
returns-clause-unwritten g c = rw c.from-in-Err-served.ensures
    (laws.LeavesUnwritten-failed c.in-Err-served.fault (g.W.Write.contents c.args.out.now)
    (g.W.Write.contents c.serve_stored-served.new.out) c.in-Err-served.ensures.unwritten)

pub returns-clause-cause : goal.returns-clause-cause
returns-clause-cause g c = rw c.from-in-Err-served.ensures (λ clean.
    laws.IfStoreRefused-failed
    (IsToldOf (IsntStarted g.S.Store c.args.feeds.store c.in-Err-served.store c.args.feeds.notes.items))
    c.in-Err-served.fault (rw c.deref.ensures.value at (c.in-Err-served.ensures.cause clean)))

pub returns-clause-accepts : goal.returns-clause-accepts
returns-clause-accepts g c = rw c.from-in-Err-served.ensures (λ clean may.
    laws.IfStoreRefused-failed TellsFailedCall c.in-Err-served.fault
    ((rw c.deref.ensures.value at c.in-Err-served.ensures.accepts) clean may))
