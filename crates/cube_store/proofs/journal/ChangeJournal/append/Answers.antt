use Rattle.std.proofs.Common.{◌<◌, ◌^◌, arith}
use Rattle.sqlite_trees.specs.View.{IsClean}
use Rattle.cube_store.specs.Rows.{Entry, IsOfSource}
use Rattle.cube_store.proofs.ViewLaws as laws
use Rattle.cube_store.proofs.journal.ChangeJournal.append.Goals as goal

pub invariant_of-self : goal.invariant_of-self
invariant_of-self g c =
    let old = g.S.Store.view c.self.inside.store in
    let new = g.S.Store.view c.put_change.new.store in
    let back : IsClean new → IsClean old = λ h. omega (arith, c.put_change.ensures.quiet.clean) in
    let change : Entry = (c.args.source, c.args.content.now) in
    let source : IsOfSource change = c.in-Ok.ensures.change.0 in
    let few : c.self.inside.count < 2 ^ 62 = omega (arith, c.in-Ok.ensures.change.1) in
    rw (c.digest_after-digest.ensures, c.form_of-form.ensures) (laws.append_keeps old new _ _ _ _ change c.self.invariant source few back
    (rw (c.digest_after-digest.ensures, c.form_of-form.ensures) at c.in-Ok.ensures.ok)
    (g.met.S.Store.shut_if_dirty c.put_change.new.store))

pub returns-in-Ok-clause-ok : goal.returns-in-Ok-clause-ok
returns-in-Ok-clause-ok g c =
    let old = g.S.Store.view c.self.inside.store in
    let new = g.S.Store.view c.put_change.new.store in
    let back : IsClean new → IsClean old = λ h. omega (arith, c.put_change.ensures.quiet.clean) in
    let change : Entry = (c.args.source, c.args.content.now) in
    let source : IsOfSource change = c.in-Ok.ensures.change.0 in
    let few : c.self.inside.count < 2 ^ 62 = omega (arith, c.in-Ok.ensures.change.1) in
    rw (← c.self.view_is) (laws.append_adds old new _ _ _ _ change c.self.invariant
    source few back (rw (c.digest_after-digest.ensures, c.form_of-form.ensures) at c.in-Ok.ensures.ok)
    (g.met.S.Store.shut_if_dirty c.put_change.new.store) (g.met.S.Store.broken_if_shut c.put_change.new.store))

pub invariant_of-self-in-Err : goal.invariant_of-self-in-Err
invariant_of-self-in-Err g c =
    let old = g.S.Store.view c.self.inside.store in
    let mid = g.S.Store.view c.put_change.new.store in
    let new = g.S.Store.view c.rollback.new.self in
    let to_mid : IsClean new → IsClean mid = λ h. omega (arith, c.rollback.ensures.quiet.clean) in
    let to_old : IsClean new → IsClean old =
    λ h. omega (arith, c.rollback.ensures.quiet.clean, c.put_change.ensures.quiet.clean) in
    laws.undo_keeps old mid new _ _ _ _ c.self.invariant to_mid to_old
    c.in-Err.ensures.kept c.rollback.ensures.undone
    (g.met.S.Store.shut_if_dirty c.rollback.new.self)

pub returns-in-Err-clause-err : goal.returns-in-Err-clause-err
returns-in-Err-clause-err g c =
    let old = g.S.Store.view c.self.inside.store in
    let mid = g.S.Store.view c.put_change.new.store in
    let new = g.S.Store.view c.rollback.new.self in
    let to_mid : IsClean new → IsClean mid = λ h. omega (arith, c.rollback.ensures.quiet.clean) in
    let to_old : IsClean new → IsClean old =
    λ h. omega (arith, c.rollback.ensures.quiet.clean, c.put_change.ensures.quiet.clean) in
    rw (← c.self.view_is) (laws.undo_undoes old mid new _ _ _ _ c.self.invariant
    to_mid to_old c.in-Err.ensures.kept c.rollback.ensures.undone
    (g.met.S.Store.shut_if_dirty c.rollback.new.self))

pub returns-in-Err-clause-cause : goal.returns-in-Err-clause-cause
returns-in-Err-clause-cause g c =
    let store = c.self.inside.store in
    let mid = c.put_change.new.store in
    let new = c.rollback.new.self in
    rw (← c.self.view_is) (λ h.
    let midway : IsClean (g.S.Store.view mid) = omega (arith, c.rollback.ensures.quiet.clean) in
    laws.cause_of (g.S.Store.view store) _ _ _ _ c.self.invariant
    (g.S.Store.faults store) (g.S.Store.faults mid) (g.S.Store.faults new)
    _ _ c.in-Err.error c.rollback.ensures.quiet.counts (λ x. x) (c.in-Err.ensures.cause midway))
