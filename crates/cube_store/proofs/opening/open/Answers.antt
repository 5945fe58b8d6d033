use Rattle.std.proofs.Common.{subst, ap, arith}
use Rattle.sqlite_trees.specs.Objects.{catalog_tree}
use Rattle.sqlite_trees.specs.Tree.{Trees}
use Rattle.sqlite_trees.specs.View.{IsClean}
use Rattle.cube_store.specs.Rows.{entries_in, entries_of}
use Rattle.cube_store.specs.State.{LeadsTo}
use Rattle.cube_store.proofs.OpenLaws as opening
use Rattle.cube_store.proofs.opening.open.Goals as goal

pub invariant_of-result : goal.invariant_of-result
invariant_of-result g c =
    let was = g.S.Store.view c.args.store in
    let mid = g.S.Store.view c.rollback.new.self in
    let now = g.S.Store.view c.read_all.new.store in
    let to_mid : IsClean now → IsClean mid = λ h. omega (arith, c.read_all.ensures.quiet.clean) in
    opening.open_is was mid now c.in-Ok.read.0 c.in-Ok.read.1 (entries_of c.args.notes.now) g.K.ChangeSink.takes c.args.sink.now
    c.read_all.new.sink c.rollback.ensures.undone to_mid c.in-Ok.ensures.read
    (g.met.S.Store.broken_if_shut c.rollback.new.self) c.in-Ok.ensures.fits.0 c.in-Ok.ensures.fits.1
    (λ s e. g.met.S.Store.unaltered c.rollback.new.self s (ap (λ t. t catalog_tree) e))
    (g.met.S.Store.shut_if_dirty c.read_all.new.store)

pub returns-in-Ok-clause-found : goal.returns-in-Ok-clause-found
returns-in-Ok-clause-found g c = λ clean.
    let was = g.S.Store.view c.args.store in
    let mid = g.S.Store.view c.rollback.new.self in
    let now = g.S.Store.view c.read_all.new.store in
    let read = c.in-Ok.ensures.read clean in
    let midway : IsClean mid = omega (arith, c.read_all.ensures.quiet.clean) in
    let broken = g.met.S.Store.broken_if_shut c.rollback.new.self in (
      opening.open_finds was mid c.rollback.ensures.undone broken now midway read.0.reads read.0.sound,
      opening.open_noted was mid c.rollback.ensures.undone broken (entries_of c.args.notes.now) read.0.sound read.1,
      subst (λ (t : Trees). LeadsTo g.K.ChangeSink.takes c.args.sink.now (entries_in (t 0)) c.read_all.new.sink)
          (opening.same_trees was mid c.rollback.ensures.undone broken read.0.sound) read.0.taken,
    )

pub returns-in-Err-clause-cause : goal.returns-in-Err-clause-cause
returns-in-Err-clause-cause g c = λ clean.
    let mid = c.rollback.new.self in
    let now = c.read_all.new.store in
    let midway : IsClean (g.S.Store.view mid) = omega (arith, c.read_all.ensures.quiet.clean) in
    opening.explains_before (g.S.Store.view c.args.store) (g.S.Store.view mid) (g.S.Store.faults c.args.store)
    (g.S.Store.faults mid) (g.S.Store.faults now) (entries_of c.args.notes.now) c.in-Err.fault
    c.rollback.ensures.undone (g.met.S.Store.broken_if_shut mid) midway c.rollback.ensures.quiet.counts
    c.read_all.ensures.quiet.counts (c.rollback.ensures.quiet.closes midway) (c.in-Err.ensures.cause clean)
