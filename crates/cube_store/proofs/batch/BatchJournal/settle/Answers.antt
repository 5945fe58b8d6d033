use Rattle.std.proofs.Common.{length}
use Rattle.cube_store.specs.Keeping.{Batch}
use Rattle.cube_store.proofs.KeepingLaws as laws
use Rattle.cube_store.proofs.batch.BatchJournal.settle.Goals as goal

pub returns-in_err-commit-clause-broken : goal.returns-in_err-commit-clause-broken
returns-in_err-commit-clause-broken g c =
    let old : Batch g.row.S.Denot =
    record { store = c.self.inside.journal.store; waiting = c.self.inside.waiting; most = c.self.inside.most } in
    let new : Batch g.row.S.Denot =
    record { store = c.commit.new.self.store; waiting = c.self.inside.waiting; most = c.self.inside.most } in
    rw (← c.self.view_is) (laws.OnErr-always c.from_residual.result (λ first changes sure kept.
    laws.HasBroken-commit g.S.Store.view g.S.Store.recovers g.S.Store.faults first old new changes sure kept
    c.commit.ensures.on c.commit.ensures.crash))

pub returns-clause-kept : goal.returns-clause-kept
returns-clause-kept g c =
    let old : Batch g.row.S.Denot =
    record { store = c.self.inside.journal.store; waiting = c.self.inside.waiting; most = c.self.inside.most } in
    let new : Batch g.row.S.Denot =
    record { store = c.commit.new.self.store; waiting = 0; most = c.self.inside.most } in
    rw (← c.self.view_is) (λ first changes sure kept.
    laws.HasKept-commit g.S.Store.view g.S.Store.recovers g.S.Store.faults first old new changes sure kept
    c.commit.ensures.on c.in_ok-commit.ensures.ok c.in_ok-commit.ensures.durable)

pub returns-then-self-eq0-clause-kept : goal.returns-then-self-eq0-clause-kept
returns-then-self-eq0-clause-kept g c =
    let now : Batch g.row.S.Denot =
    record { store = c.self.inside.journal.store; waiting = c.self.inside.waiting; most = c.self.inside.most } in
    rw (← c.self.view_is) (λ first changes sure kept.
    laws.HasKept-settled g.S.Store.view g.S.Store.recovers first now changes sure c.if-self-eq0.true kept)

pub returns-clause-still : goal.returns-clause-still
returns-clause-still g c =
    let old : Batch g.row.S.Denot =
    record { store = c.self.inside.journal.store; waiting = c.self.inside.waiting; most = c.self.inside.most } in
    let new : Batch g.row.S.Denot =
    record { store = c.commit.new.self.store; waiting = 0; most = c.self.inside.most } in
    rw (← c.self.view_is) (λ first changes sure kept.
    laws.HasKept-least g.S.Store.view g.S.Store.recovers first new changes (length changes) sure kept.within
    (laws.HasKept-commit g.S.Store.view g.S.Store.recovers g.S.Store.faults first old new changes sure kept
    c.commit.ensures.on c.in_ok-commit.ensures.ok c.in_ok-commit.ensures.durable))

pub returns-then-self-eq0-clause-still : goal.returns-then-self-eq0-clause-still
returns-then-self-eq0-clause-still g c = rw (← c.self.view_is) (λ first changes sure kept. kept)
