use Rattle.std.proofs.Common.{[], ◌∷◌, ◌+◌, ◌∙◌, arith}
use Rattle.sqlite_trees.specs.View.{IsClean}
use Rattle.cube_store.specs.Rows.{Entry}
use Rattle.cube_store.specs.Keeping.{Batch}
use Rattle.cube_store.proofs.KeepingLaws as laws
use Rattle.cube_store.proofs.batch.BatchJournal.append.Goals as goal

pub returns-in_err-make_room-clause-broken : goal.returns-in_err-make_room-clause-broken
returns-in_err-make_room-clause-broken g c = laws.OnErr-always c.from_residual.result (λ first changes sure kept.
    laws.HasBroken-more g.S.Store.view g.S.Store.recovers first c.make_room.new.self changes
    ((c.args.source, c.args.content.now) ∷ []) sure (c.in_err-make_room.ensures.broken first changes sure kept))

pub returns-in_err-append-clause-broken : goal.returns-in_err-append-clause-broken
returns-in_err-append-clause-broken g c =
    let mid : Batch g.row.S.Denot =
    record { store = c.self.inside.journal.store; waiting = c.self.inside.waiting; most = c.self.inside.most } in
    let new : Batch g.row.S.Denot =
    record { store = c.append.new.self.store; waiting = c.self.inside.waiting; most = c.self.inside.most } in
    laws.OnErr-always c.from_residual-in_err-append.result (λ first changes sure kept.
    laws.HasBroken-more g.S.Store.view g.S.Store.recovers first new changes
    ((c.args.source, c.args.content.now) ∷ []) sure
    (laws.HasBroken-append g.S.Store.view g.S.Store.recovers g.S.Store.faults first mid new changes sure
    (rw (← c.self.view_is) at (c.in_ok-make_room.ensures.kept first changes sure kept))
    c.append.ensures.on c.append.ensures.crash))

pub returns-clause-kept : goal.returns-clause-kept
returns-clause-kept g c =
    let mid : Batch g.row.S.Denot =
    record { store = c.self.inside.journal.store; waiting = c.self.inside.waiting; most = c.self.inside.most } in
    let new : Batch g.row.S.Denot =
    record { store = c.append.new.self.store; waiting = c.self.inside.waiting + 1; most = c.self.inside.most } in
    λ first changes sure kept.
    laws.HasKept-append g.S.Store.view g.S.Store.recovers g.S.Store.faults first mid new changes sure
    (rw (← c.self.view_is) at (c.in_ok-make_room.ensures.kept first changes sure kept))
    (c.args.source, c.args.content.now) c.append.ensures.on c.in_ok-append.ensures.ok c.append.ensures.crash
    (laws.more_waits c.self.inside.waiting)

pub returns-in_err-append-clause-cause : goal.returns-in_err-append-clause-cause
returns-in_err-append-clause-cause g c =
    let old = g.S.Store.view c.args.self.now.store in
    let mid = g.S.Store.view c.self.inside.journal.store in
    let on = rw (← c.self.view_is) at c.in_ok-make_room.ensures.on in
    let same = rw (← c.self.view_is) at c.in_ok-make_room.ensures.same in
    let change : Entry = (c.args.source, c.args.content.now) in
    laws.IfErr-same c.from_residual-in_err-append.result c.in_err-append.field-0.0 _
    c.from_residual-in_err-append.ensures.1 (λ clean.
    let midway : IsClean mid = omega (arith, c.append.ensures.on.clean) in
    laws.append_fails (g.S.Store.faults c.args.self.now.store) (g.S.Store.faults c.self.inside.journal.store)
    (g.S.Store.faults c.append.new.self.store) old mid c.self.inside.journal.count change
    c.in_err-append.field-0.0 on.counts (same midway)
    (λ is_open. c.count-held.ensures.held is_open ∙ c.count-held.ensures.value) (c.in_err-append.ensures.cause clean))
