use Rattle.std.proofs.Common.{◌⊎◌}
use Rattle.cube_store.specs.Calls.{IsntStarted}
use Rattle.cube_store.specs.Codes.{IsToldOf}
use Rattle.cube_store.specs.Rows.{entries_of}
use Rattle.cube_store.specs.State.{IsStore, IsUnmade}
use Rattle.cube_store_commands.proofs.StoredLaws as laws
use Rattle.cube_store_commands.proofs.session.serve_stored.Goals as goal

pub returns-in-Ok-serve_resumed-clause-ok : goal.returns-in-Ok-serve_resumed-clause-ok
returns-in-Ok-serve_resumed-clause-ok g c =
    laws.ServesStored-served g.S.Store.view g.S.Store.recovers
    c.args.live c.in-Ok.live (g.S.Store.view c.args.store) (entries_of c.args.notes.now) c.in-Ok.journal
    c.in-Ok-serve_resumed.served.1 c.in-Ok.ensures.kept c.in-Ok.ensures.taken c.in-Ok.ensures.stored
    c.in-Ok.ensures.noted c.in-Ok.ensures.formed c.args.records.now.left c.in-Ok-serve_resumed.served.0
    (g.W.Write.contents c.args.out.now)
    (g.W.Write.contents c.serve_resumed.new.out) c.in-Ok-serve_resumed.ensures.ok c.in-Ok-serve_resumed.ensures.kept

pub returns-in-Ok-serve_resumed-clause-schema : goal.returns-in-Ok-serve_resumed-clause-schema
returns-in-Ok-serve_resumed-clause-schema g c =
    laws.schema-served g.S.Store.view g.S.Store.recovers
    c.args.live c.in-Ok.live (g.S.Store.view c.args.store) (entries_of c.args.notes.now) c.in-Ok.journal
    c.in-Ok-serve_resumed.served.1 c.in-Ok.ensures.kept c.in-Ok.ensures.taken c.in-Ok.ensures.stored
    c.in-Ok.ensures.noted c.in-Ok.ensures.formed c.args.records.now.left c.in-Ok-serve_resumed.served.0
    c.in-Ok-serve_resumed.ensures.schema c.in-Ok-serve_resumed.ensures.kept

pub returns-in-Ok-clause-err : goal.returns-in-Ok-clause-err
returns-in-Ok-clause-err g c =
    laws.BreaksSession-failed g.S.Store.view g.S.Store.recovers
    c.args.live c.in-Ok.live (g.S.Store.view c.args.store) (entries_of c.args.notes.now) c.in-Ok.journal
    _ c.in-Ok.ensures.kept c.in-Ok.ensures.taken c.in-Ok.ensures.stored c.in-Ok.ensures.noted c.in-Ok.ensures.formed c.args.records.now.left _
    (g.W.Write.contents c.args.out.now) (g.W.Write.contents c.serve_resumed.new.out)
    c.in-Err-serve_resumed.ensures.err

pub returns-clause-err : goal.returns-clause-err
returns-clause-err g c = rw c.from.ensures
    (laws.BreaksStored-refused c.args.live (g.S.Store.view c.args.store) (entries_of c.args.notes.now)
    (g.S.Store.recovers c.args.store) (g.S.Store.recovers c.in-Err.store) _ _ c.in-Err.fault
    (g.W.Write.contents c.args.out.now) c.args.records.now.left c.in-Err.ensures.unharmed c.in-Err.ensures.accepts)

pub returns-clause-cause : goal.returns-clause-cause
returns-clause-cause g c = rw c.from.ensures (λ clean.
    laws.IfRefused-untaken (IsToldOf (IsntStarted g.S.Store c.args.store c.in-Err.store c.args.notes.now))
    c.in-Err.fault (c.in-Err.ensures.cause clean))

pub returns-clause-accepts : goal.returns-clause-accepts
returns-clause-accepts g c = rw c.from.ensures (λ clean may.
    laws.IfRefused-explains c.args.live (g.S.Store.view c.args.store)
    (IsStore (g.S.Store.view c.args.store) (entries_of c.args.notes.now) ⊎ IsUnmade (g.S.Store.view c.args.store))
    c.in-Err.fault (c.in-Err.ensures.accepts clean) may)

pub returns-clause-unwritten : goal.returns-clause-unwritten
returns-clause-unwritten g c = rw c.from.ensures
    (laws.WritesNothing-refused c.in-Err.fault (g.W.Write.contents c.args.out.now))
