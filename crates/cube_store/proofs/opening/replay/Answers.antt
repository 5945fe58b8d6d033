use Rattle.std.proofs.Common.{◌+◌, ◌≤◌, ◌<◌, ◌^◌, length, subst, arith, rules}
use Rattle.std.specs.Prelude.{⊤}
use Rattle.sqlite_trees.specs.View.{IsClean}
use Rattle.cube_store.specs.Reading.{HasTaken, IsntTaken}
use Rattle.cube_store.specs.State.{rows_left, form_in}
use Rattle.cube_store.proofs.ReadingLaws as laws
use Rattle.cube_store.proofs.opening.replay.Goals as goal

pub changes-preserved : goal.changes-preserved
changes-preserved g c =
    let old = g.S.Store.view c.args.store.now in
    let before = g.S.Store.view c.changes.store in
    let now = g.S.Store.view c.step.new.store in
    let row = c.step.new.row in
    let back : IsClean now → IsClean before = λ h. omega (arith, c.step.ensures.quiet.clean) in
    record {
      live = search rules;
      reads = λ clean. laws.reads_then old before now (c.changes.invariant.reads (back clean))
          (rw c.if-not-branch.false at (c.in_ok-step.ensures.ok clean)).0;
      quiet = laws.quiet_then g.S.Store.view g.S.Store.faults g.S.Store.recovers g.S.Store.is_shielded
          c.args.store.now c.changes.store c.step.new.store c.changes.invariant.quiet c.step.ensures.quiet;
      taken = λ clean. laws.one_taken g.K.ChangeSink.takes (form_in old) (old.trees 0) (rows_left before 0)
          (rows_left now 0) row c.changes.at c.changes.digest c.in-Ok.next c.args.sink.now c.changes.sink
          c.take_row.new.sink
          (c.changes.invariant.taken (back clean)) (rw c.if-not-branch.false at (c.in_ok-step.ensures.ok clean)).1
          (subst (λ form. HasTaken g.K.ChangeSink.takes form c.changes.digest (c.changes.at + 1) row c.changes.sink
          c.take_row.new.sink c.in-Ok.next) c.form_of-form.ensures c.in-Ok.ensures.taken);
      sound = λ clean. c.changes.invariant.sound (back clean);
    }

pub returns-then-not-branch-clause-read : goal.returns-then-not-branch-clause-read
returns-then-not-branch-clause-read g c = λ clean.
    let old = g.S.Store.view c.args.store.now in
    let before = g.S.Store.view c.changes.store in
    let back : IsClean before = omega (arith, c.step.ensures.quiet.clean) in
    laws.all_taken g.K.ChangeSink.takes old before (g.S.Store.view c.step.new.store) c.step.new.row c.changes.at
    c.changes.digest c.args.sink.now c.changes.sink (c.changes.invariant.taken back) (c.changes.invariant.reads back)
    (c.changes.invariant.sound back) (rw c.if-not-branch.true at (c.in_ok-step.ensures.ok clean))

pub returns-in-Err-clause-cause : goal.returns-in-Err-clause-cause
returns-in-Err-clause-cause g c = λ clean notes.
    let old = g.S.Store.view c.args.store.now in
    let before = g.S.Store.view c.changes.store in
    let now = g.S.Store.view c.step.new.store in
    let back : IsClean before = omega (arith, c.step.ensures.quiet.clean) in
    laws.not_taken g.K.ChangeSink.takes (form_in old) _ _ _ ⊤ old.trees notes (rows_left before 0) (rows_left now 0)
    c.step.new.row c.changes.at c.changes.digest c.args.sink.now c.changes.sink c.in-Err.fault
    (c.changes.invariant.taken back) (rw c.if-not-branch.false at (c.in_ok-step.ensures.ok clean)).1
    (c.changes.invariant.sound back)
    (subst (λ form. IsntTaken form c.changes.digest (c.changes.at + 1) c.step.new.row c.in-Err.fault) c.form_of-form.ensures
    c.in-Err.ensures.cause)

pub returns-clause-cause : goal.returns-clause-cause
returns-clause-cause g c = λ clean notes.
    let old = g.S.Store.view c.args.store.now in
    let now = g.S.Store.view c.changes.store in
    let passed : c.changes.at ≤ length (old.trees 0) = laws.taken_length g.K.ChangeSink.takes (form_in old) (old.trees 0)
    (rows_left now 0) c.changes.at c.changes.digest c.args.sink.now c.changes.sink (c.changes.invariant.taken clean) in
    let many : 2 ^ 62 < length (old.trees 0) = omega arith in
    (c.changes.invariant.sound clean, many)
