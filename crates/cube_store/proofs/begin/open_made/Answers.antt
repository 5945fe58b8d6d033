use Rattle.std.proofs.Common.{inl, inr, refl, sym, subst, arith}
use Rattle.std.proofs.lemmas.Result.{IfOk-weaker, IfErr-weaker}
use Rattle.sqlite_trees.specs.View.{IsClean}
use Rattle.cube_store.specs.Rows.{entries_of}
use Rattle.cube_store.specs.State.{LeadsTo}
use Rattle.cube_store.proofs.ReadingLaws.{ok_both, err_both}
use Rattle.cube_store.proofs.StartLaws as laws
use Rattle.cube_store.proofs.begin.open_made.Goals as goal

-- ---- the store has no row

pub returns-in-Ok-true-clause-unharmed : goal.returns-in-Ok-true-clause-unharmed
returns-in-Ok-true-clause-unharmed g c = λ db h. c.is_unmade.ensures.quiet.outcomes db h

pub returns-in-Ok-true-clause-cause : goal.returns-in-Ok-true-clause-cause
returns-in-Ok-true-clause-cause g c = λ clean.
    let told = rw c.in-Ok-true.field-0-test at (c.in-Ok-true.ensures.found clean) in
    inr (
      refl,
      laws.no_row_before (g.S.Store.view c.args.store) (g.S.Store.view c.is_unmade.new.store) told.0
          (entries_of c.args.notes.now) told.1,
    )

-- ---- the store that is there is opened

pub returns-in-Ok-false-clause-found : goal.returns-in-Ok-false-clause-found
returns-in-Ok-false-clause-found g c =
    let was = g.S.Store.view c.args.store in
    let mid = g.S.Store.view c.is_unmade.new.store in
    ok_both c.open.result _ _ _ (λ j quiet h clean.
    let midway : IsClean mid = omega (arith, quiet.clean) in
    let told = rw c.in-Ok-false.field-0-test at (c.in-Ok-false.ensures.found midway) in
    let notes = entries_of c.args.notes.now in
    let now = g.S.Store.view j.store in
    let found = h clean in (
      laws.finds_before was mid told.0 notes now found.0,
      laws.noted_before was mid told.0 notes now found.0 found.1,
    ))
    c.open.ensures.quiet c.open.ensures.found

pub returns-in-Ok-false-clause-made : goal.returns-in-Ok-false-clause-made
returns-in-Ok-false-clause-made g c =
    let mid = g.S.Store.view c.is_unmade.new.store in
    IfOk-weaker c.open.result _ _ (λ j quiet clean.
    let midway : IsClean mid = omega (arith, quiet.clean) in
    (rw c.in-Ok-false.field-0-test at (c.in-Ok-false.ensures.found midway)).1)
    c.open.ensures.quiet

pub returns-in-Ok-false-clause-taken : goal.returns-in-Ok-false-clause-taken
returns-in-Ok-false-clause-taken g c =
    IfOk-weaker c.open.result _ _ (λ j h clean.
    subst (λ es. LeadsTo g.K.ChangeSink.takes c.args.sink.now es c.open.new.sink) (sym (h clean).0.stored) (h clean).2)
    c.open.ensures.found

pub returns-in-Ok-false-clause-crash : goal.returns-in-Ok-false-clause-crash
returns-in-Ok-false-clause-crash g c =
    IfOk-weaker c.open.result _ _ (λ j quiet db h. c.is_unmade.ensures.quiet.outcomes db (quiet.outcomes db h))
    c.open.ensures.quiet

pub returns-in-Ok-false-clause-unharmed : goal.returns-in-Ok-false-clause-unharmed
returns-in-Ok-false-clause-unharmed g c =
    IfErr-weaker c.open.result _ _ (λ e quiet db h. c.is_unmade.ensures.quiet.outcomes db (quiet.outcomes db h))
    c.open.ensures.unharmed

pub returns-in-Ok-false-clause-accepts : goal.returns-in-Ok-false-clause-accepts
returns-in-Ok-false-clause-accepts g c =
    let was = c.args.store in
    let mid = c.is_unmade.new.store in
    err_both c.open.result _ _ _ (λ e quiet h clean store unmade.
    let midway : IsClean (g.S.Store.view mid) = omega (arith, quiet.clean) in
    let told = rw c.in-Ok-false.field-0-test at (c.in-Ok-false.ensures.found midway) in
    laws.opening_fails (g.S.Store.view was) (g.S.Store.view mid) (g.S.Store.faults was) (g.S.Store.faults mid)
    (g.S.Store.faults e.1) (entries_of c.args.notes.now) _ e.0 told c.is_unmade.ensures.quiet.counts quiet.counts
    (c.is_unmade.ensures.quiet.closes midway) (h clean) (inl store)) c.open.ensures.unharmed c.open.ensures.cause

pub returns-in-Ok-false-clause-cause : goal.returns-in-Ok-false-clause-cause
returns-in-Ok-false-clause-cause g c =
    let was = c.args.store in
    let mid = c.is_unmade.new.store in
    err_both c.open.result _ _ _ (λ e quiet h clean.
    let midway : IsClean (g.S.Store.view mid) = omega (arith, quiet.clean) in
    let told = rw c.in-Ok-false.field-0-test at (c.in-Ok-false.ensures.found midway) in
    inl (laws.explains_since (g.S.Store.view was) (g.S.Store.view mid) told.0 (entries_of c.args.notes.now)
    (g.S.Store.faults was) (g.S.Store.faults mid) (g.S.Store.faults e.1) e.0 c.is_unmade.ensures.quiet.counts quiet.counts
    (c.is_unmade.ensures.quiet.closes midway) (h clean))) c.open.ensures.unharmed c.open.ensures.cause

-- ---- the store can't be looked at

pub returns-in-Err-clause-cause : goal.returns-in-Err-clause-cause
returns-in-Err-clause-cause g c = λ clean. inl (c.in-Err.ensures.cause clean)

pub returns-in-Err-clause-unharmed : goal.returns-in-Err-clause-unharmed
returns-in-Err-clause-unharmed g c = λ db h. c.is_unmade.ensures.quiet.outcomes db h

pub returns-in-Err-clause-accepts : goal.returns-in-Err-clause-accepts
returns-in-Err-clause-accepts g c = λ clean store unmade.
    laws.look_fails (g.S.Store.view c.args.store) (entries_of c.args.notes.now) _ _ c.in-Err.error (inl store)
    (c.in-Err.ensures.cause clean)
