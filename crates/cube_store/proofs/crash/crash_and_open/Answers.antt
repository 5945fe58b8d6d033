use Rattle.std.proofs.Common.{◌≤◌, inr, sym, ap, subst, ◌∙◌, arith}
use Rattle.std.proofs.lemmas.Result.{IfOk-weaker}
use Rattle.sqlite_trees.specs.Tree.{Trees}
use Rattle.sqlite_trees.specs.View.{IsClean, IsReopened, doubt}
use Rattle.cube_store.specs.Rows.{entries_in, entries_of}
use Rattle.cube_store.specs.State.{LeadsTo, HasTables}
use Rattle.cube_store.proofs.CrashLaws as laws
use Rattle.cube_store.proofs.OpenLaws as opening
use Rattle.cube_store.proofs.ReadingLaws.{ok_both, err_both}
use Rattle.cube_store.proofs.crash.crash_and_open.Goals as goal

pub returns-clause-found : goal.returns-clause-found
returns-clause-found g c =
    let mid = g.S.Store.view c.crash_and_reopen.new.self in
    ok_both c.open.result _ _ _ (λ j quiet h clean.
    let midway : IsClean mid = omega (arith, quiet.clean) in (
      mid.committed,
      rw c.into_store-store.ensures.value at (c.in_default.ensures.found midway),
      ((h clean).0.stored, (h clean).0.held),
    )) c.open.ensures.quiet c.open.ensures.found

pub returns-clause-last : goal.returns-clause-last
returns-clause-last g c =
    let mid = g.S.Store.view c.crash_and_reopen.new.self in
    ok_both c.open.result _ _ _ (λ j quiet h clean is_open.
    let midway : IsClean mid = omega (arith, quiet.clean) in
    let same = g.met.S.Store.settled c.args.journal.store mid.committed is_open
    (rw c.into_store-store.ensures.value at (c.in_default.ensures.found midway)) in
    (h clean).0.stored ∙ ap (λ (t : Trees). entries_in (t 0)) same) c.open.ensures.quiet c.open.ensures.found

pub returns-clause-taken : goal.returns-clause-taken
returns-clause-taken g c =
    IfOk-weaker c.open.result _ _ (λ j h clean.
    subst (λ es. LeadsTo g.K.ChangeSink.takes c.args.sink.now es c.open.new.sink) (sym (h clean).0.stored) (h clean).2)
    c.open.ensures.found

pub returns-clause-accepts : goal.returns-clause-accepts
returns-clause-accepts g c =
    let old = c.args.journal.store in
    let mid = c.crash_and_reopen.new.self in
    let was = g.S.Store.view old in
    let view = g.S.Store.view mid in
    let same = c.into_store-store.ensures.value in
    err_both c.open.result _ _ _ (λ e quiet h clean all.
    let midway : IsClean view = omega (arith, quiet.clean) in
    let fell : doubt was.is_clean ≤ doubt view.is_clean = rw same at c.crash_and_reopen.ensures.clean in
    let before : IsClean was = omega arith in
    let left : g.S.Store.recovers old view.committed = rw same at (c.in_default.ensures.found midway) in
    let fresh : IsReopened was view = rw same at c.in_default.ensures.fresh in
    let up : g.S.Store.faults old ≤ g.S.Store.faults mid = rw same at c.crash_and_reopen.ensures.counts in
    let tables : IsClean was → HasTables was = c.into_store-store.ensures.tables in
    let store = laws.reopened_store was view tables before midway fresh (g.met.S.Store.broken_if_shut mid)
    (g.met.S.Store.unaltered mid) (entries_of c.args.notes.now) (all view.committed left) in
    laws.failed_since (g.S.Store.faults old) (g.S.Store.faults mid) (g.S.Store.faults e.1) e.0 up
    (opening.accepts _ view (entries_of c.args.notes.now) e.0 store (h clean)))
    c.open.ensures.unharmed c.open.ensures.cause

pub returns-clause-cause : goal.returns-clause-cause
returns-clause-cause g c =
    let old = c.args.journal.store in
    let mid = c.crash_and_reopen.new.self in
    let was = g.S.Store.view old in
    let view = g.S.Store.view mid in
    let same = c.into_store-store.ensures.value in
    err_both c.open.result _ _ _ (λ e quiet h clean.
    let midway : IsClean view = omega (arith, quiet.clean) in
    let fell : doubt was.is_clean ≤ doubt view.is_clean = rw same at c.crash_and_reopen.ensures.clean in
    let before : IsClean was = omega arith in
    let left : g.S.Store.recovers old view.committed = rw same at (c.in_default.ensures.found midway) in
    let fresh : IsReopened was view = rw same at c.in_default.ensures.fresh in
    let up : g.S.Store.faults old ≤ g.S.Store.faults mid = rw same at c.crash_and_reopen.ensures.counts in
    let tables : IsClean was → HasTables was = c.into_store-store.ensures.tables in
    inr (
      view.committed,
      left,
      laws.reopened_explains was view tables before midway fresh
          (g.met.S.Store.broken_if_shut mid) (g.met.S.Store.unaltered mid) (g.S.Store.faults old) (g.S.Store.faults mid)
          (g.S.Store.faults e.1) (entries_of c.args.notes.now) e.0 up (h clean),
    ))
    c.open.ensures.unharmed c.open.ensures.cause
