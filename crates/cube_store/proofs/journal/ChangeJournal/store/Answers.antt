use Rattle.cube_store.proofs.ViewLaws as laws
use Rattle.cube_store.proofs.journal.ChangeJournal.store.Goals as goal

pub returns-clause-settled : goal.returns-clause-settled
returns-clause-settled g c =
    let store = c.self.inside.store in
    rw (← c.self.view_is) (laws.settled_rows (g.S.Store.view store) _ _ _ _
    (g.S.Store.recovers store) c.self.invariant (g.met.S.Store.settled store))

pub returns-clause-can_open : goal.returns-clause-can_open
returns-clause-can_open g c =
    let store = c.self.inside.store in
    rw (← c.self.view_is)
    (laws.is_store (g.S.Store.view store) _ _ _ _ c.self.invariant
    (g.met.S.Store.shut_if_dirty store))

pub returns-clause-tables : goal.returns-clause-tables
returns-clause-tables g c = rw (← c.self.view_is) (λ h. c.self.invariant.tables h)
