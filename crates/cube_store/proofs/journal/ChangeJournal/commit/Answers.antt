use Rattle.std.proofs.Common.{◌≤◌, ap, arith}
use Rattle.sqlite_trees.specs.View.{View, IsClean}
use Rattle.cube_store.proofs.ViewLaws as laws
use Rattle.cube_store.proofs.journal.ChangeJournal.commit.Goals as goal

pub invariant_of-self : goal.invariant_of-self
invariant_of-self g c =
    let old = g.S.Store.view c.self.inside.store in
    let new = g.S.Store.view c.commit.new.self in
    let back : IsClean new → IsClean old = λ h. omega (arith, c.commit.ensures.clean) in
    laws.commit_keeps old new _ _ _ _ c.self.invariant back c.in-Ok.ensures.ok
    (g.met.S.Store.shut_if_dirty c.commit.new.self)

pub invariant_of-self-in-Err : goal.invariant_of-self-in-Err
invariant_of-self-in-Err g c =
    let old = g.S.Store.view c.self.inside.store in
    let new = g.S.Store.view c.commit.new.self in
    let back : IsClean new → IsClean old = λ h. omega (arith, c.commit.ensures.clean) in
    laws.undo_keeps old old new _ _ _ _ c.self.invariant back back
    (λ _. laws.kept_itself old) c.in-Err.ensures.err
    (g.met.S.Store.shut_if_dirty c.commit.new.self)

pub returns-in-Ok-clause-ok : goal.returns-in-Ok-clause-ok
returns-in-Ok-clause-ok g c =
    let old = g.S.Store.view c.self.inside.store in
    let new = g.S.Store.view c.commit.new.self in
    let back : IsClean new → IsClean old = λ h. omega (arith, c.commit.ensures.clean) in
    rw (← c.self.view_is) (laws.commit_commits old new _ _ _ _ c.self.invariant back
    c.in-Ok.ensures.ok (g.met.S.Store.shut_if_dirty c.commit.new.self)
    (g.met.S.Store.broken_if_shut c.commit.new.self))

pub returns-in-Ok-clause-durable : goal.returns-in-Ok-clause-durable
returns-in-Ok-clause-durable g c =
    let store = c.commit.new.self in
    let old = g.S.Store.view c.self.inside.store in
    let new = g.S.Store.view store in
    let back : IsClean new → IsClean old = λ h. omega (arith, c.commit.ensures.clean) in
    rw (← c.self.view_is) (laws.commit_lasts old new _ _ _ _ c.self.invariant back
    c.in-Ok.ensures.ok (g.met.S.Store.shut_if_dirty store)
    (g.met.S.Store.broken_if_shut store) (g.S.Store.recovers store) (g.met.S.Store.settled store))

pub returns-in-Err-clause-err : goal.returns-in-Err-clause-err
returns-in-Err-clause-err g c =
    let old = g.S.Store.view c.self.inside.store in
    let new = g.S.Store.view c.commit.new.self in
    let back : IsClean new → IsClean old = λ h. omega (arith, c.commit.ensures.clean) in
    rw (← c.self.view_is) (laws.undo_undoes old old new _ _ _ _ c.self.invariant
    back back (λ _. laws.kept_itself old) c.in-Err.ensures.err
    (g.met.S.Store.shut_if_dirty c.commit.new.self))

pub returns-in-Err-clause-cause : goal.returns-in-Err-clause-cause
returns-in-Err-clause-cause g c =
    let store = c.self.inside.store in
    let new = c.commit.new.self in
    let last : g.S.Store.faults new ≤ g.S.Store.faults new = omega arith in
    rw (← c.self.view_is) (λ h. laws.cause_of (g.S.Store.view store) _ _ _ _
    c.self.invariant (g.S.Store.faults store) (g.S.Store.faults new) (g.S.Store.faults new)
    ⊥ ⊥ c.in-Err.error last (λ x. x) (c.in-Err.ensures.cause h))

pub returns-in-Ok-clause-crash : goal.returns-in-Ok-clause-crash
returns-in-Ok-clause-crash g c =
    let store = c.self.inside.store in
    rw (← c.self.view_is) (λ db h. laws.commit_leaves (g.S.Store.view store) _ _ _ _
    (g.S.Store.recovers store) db c.self.invariant
    (g.met.S.Store.broken_if_shut store) (g.met.S.Store.shut_if_dirty store) (c.commit.ensures.crash db h))

pub returns-in-Err-clause-crash : goal.returns-in-Err-clause-crash
returns-in-Err-clause-crash g c =
    let store = c.self.inside.store in
    rw (← c.self.view_is) (λ db h. laws.commit_leaves (g.S.Store.view store) _ _ _ _
    (g.S.Store.recovers store) db c.self.invariant
    (g.met.S.Store.broken_if_shut store) (g.met.S.Store.shut_if_dirty store) (c.commit.ensures.crash db h))

pub returns-in-Ok-clause-reals : goal.returns-in-Ok-clause-reals
returns-in-Ok-clause-reals g c =
    rw (← c.self.view_is) (λ clean. ap (λ (v : View). v.reals) (c.in-Ok.ensures.ok clean).is)
