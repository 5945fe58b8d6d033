use Rattle.std.proofs.Common.{◌≡◌, ◌<◌, length, true≢false, sym, ◌∙◌, arith, rules}
use Rattle.sqlite_trees.specs.View.{IsClean}
use Rattle.cube_store.specs.State.{rows_left}
use Rattle.cube_store.proofs.CompareLaws as compare
use Rattle.cube_store.proofs.ReadingLaws as laws
use Rattle.cube_store.proofs.opening.compare.Goals as goal

pub notes-preserved : goal.notes-preserved
notes-preserved g c =
    let old = g.S.Store.view c.args.store.now in
    let before = g.S.Store.view c.notes.store in
    let now = g.S.Store.view c.step.new.store in
    let back : IsClean now → IsClean before = λ h. omega (arith, c.step.ensures.quiet.clean) in
    let within : c.notes.at < length c.args.notes.now = omega arith in
    record {
      live = search rules;
      reads = λ clean. laws.reads_then old before now (c.notes.invariant.reads (back clean))
          (rw c.if-not-branch.false at (c.in_ok-step.ensures.ok clean)).0;
      quiet = laws.quiet_then g.S.Store.view g.S.Store.faults g.S.Store.recovers g.S.Store.is_shielded
          c.args.store.now c.notes.store c.step.new.store c.notes.invariant.quiet c.step.ensures.quiet;
      passed = λ clean. compare.passed_more (old.trees 1) c.args.notes.now c.notes.at _ c.step.new.row
          (rows_left before 0) (rows_left now 0) within
          (compare.index_is c.args.notes.now c.notes.at _ within) (c.notes.invariant.passed (back clean))
          (rw c.if-not-branch.false at (c.in_ok-step.ensures.ok clean)).1
          (c.is_note.ensures.0 c.if-not-is_note.false);
      sound = λ clean. c.notes.invariant.sound (back clean);
    }

pub returns-then-not-branch-clause-cause : goal.returns-then-not-branch-clause-cause
returns-then-not-branch-clause-cause g c = λ clean.
    let old = g.S.Store.view c.args.store.now in
    let before = g.S.Store.view c.notes.store in
    let back : IsClean before = omega (arith, c.step.ensures.quiet.clean) in
    let within : c.notes.at < length c.args.notes.now = omega arith in
    let note = compare.some_note c.args.notes.now c.notes.at within in (
      c.notes.invariant.sound back,
      compare.ends_before (old.trees 1) c.args.notes.now c.notes.at note.0 (rows_left before 0) within note.1
          (c.notes.invariant.passed back)
          (rw c.if-not-branch.true at (c.in_ok-step.ensures.ok clean)).1,
    )

pub returns-then-not-is_note-clause-cause : goal.returns-then-not-is_note-clause-cause
returns-then-not-is_note-clause-cause g c = λ clean.
    let old = g.S.Store.view c.args.store.now in
    let before = g.S.Store.view c.notes.store in
    let now = g.S.Store.view c.step.new.store in
    let back : IsClean before = omega (arith, c.step.ensures.quiet.clean) in
    let within : c.notes.at < length c.args.notes.now = omega arith in (
      c.notes.invariant.sound back,
      compare.differs (old.trees 1) c.args.notes.now c.notes.at _ c.step.new.row (rows_left before 0)
          (rows_left now 0) within
          (compare.index_is c.args.notes.now c.notes.at _ within) (c.notes.invariant.passed back)
          (rw c.if-not-branch.false at (c.in_ok-step.ensures.ok clean)).1
          (λ same. true≢false (sym (c.is_note.ensures.1 same) ∙ c.if-not-is_note.true)),
    )

pub returns-then-branch-clause-cause : goal.returns-then-branch-clause-cause
returns-then-branch-clause-cause g c = λ clean.
    let old = g.S.Store.view c.args.store.now in
    let before = g.S.Store.view c.notes.store in
    let now = g.S.Store.view c.step-2.new.store in
    let back : IsClean before = omega (arith, c.step-2.ensures.quiet.clean) in
    let end : c.notes.at ≡ length c.args.notes.now = omega arith in (
      c.notes.invariant.sound back,
      compare.one_left (old.trees 1) c.args.notes.now c.notes.at c.step-2.new.row (rows_left before 0)
          (rows_left now 0) end
          (c.notes.invariant.passed back)
          (rw c.if-branch.true at (c.in_ok-step-2.ensures.ok clean)).1,
    )

pub returns-clause-seen : goal.returns-clause-seen
returns-clause-seen g c = λ clean.
    let old = g.S.Store.view c.args.store.now in
    let before = g.S.Store.view c.notes.store in
    let back : IsClean before = omega (arith, c.step-2.ensures.quiet.clean) in
    let end : c.notes.at ≡ length c.args.notes.now = omega arith in
    compare.all_same old before (g.S.Store.view c.step-2.new.store) c.args.notes.now c.notes.at c.step-2.new.row end
    (c.notes.invariant.passed back) (c.notes.invariant.reads back) (c.notes.invariant.sound back)
    (rw c.if-branch.false at (c.in_ok-step-2.ensures.ok clean))
