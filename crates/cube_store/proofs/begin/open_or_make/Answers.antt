use Rattle.std.proofs.Common.{inl, inr, refl, sym, subst, arith}
use Rattle.std.proofs.lemmas.Result.{IfOk-weaker, IfErr-weaker}
use Rattle.sqlite_disk.specs.Disk.{MoreFaults}
use Rattle.sqlite_trees.specs.View.{IsClean}
use Rattle.cube_store.specs.Rows.{entries_of}
use Rattle.cube_store.specs.State.{LeadsTo}
use Rattle.cube_store.proofs.ReadingLaws.{ok_both, err_both, cause_then}
use Rattle.cube_store.proofs.MakeLaws.{goes_quiet}
use Rattle.cube_store.proofs.StartLaws as laws
use Rattle.cube_store.proofs.begin.open_or_make.Goals as goal

pub make-requires : goal.make-requires
make-requires g c = λ clean. (rw c.in-Ok-true.field-0-test at (c.in-Ok-true.ensures.found clean)).1

-- ---- a store is made

pub returns-in-Ok-true-clause-found : goal.returns-in-Ok-true-clause-found
returns-in-Ok-true-clause-found g c =
    let was = g.S.Store.view c.args.store in
    let mid = g.S.Store.view c.is_unmade.new.store in
    ok_both c.make.result _ _ _ (λ j left made clean.
    let midway : IsClean mid = omega (arith, left.on.clean) in
    let told = rw c.in-Ok-true.field-0-test at (c.in-Ok-true.ensures.found midway) in
    inl (laws.makes_before was mid told.0 (entries_of c.args.notes.now) (g.S.Store.view j.store) (made clean)))
    c.make.ensures.left c.make.ensures.made

pub returns-in-Ok-true-clause-taken : goal.returns-in-Ok-true-clause-taken
returns-in-Ok-true-clause-taken g c =
    IfOk-weaker c.make.result _ _ (λ j made clean.
    subst (λ es. LeadsTo g.K.ChangeSink.takes c.args.sink.now es c.args.sink.now) (sym (made clean).stored) refl)
    c.make.ensures.made

pub returns-in-Ok-true-clause-crash : goal.returns-in-Ok-true-clause-crash
returns-in-Ok-true-clause-crash g c =
    IfOk-weaker c.make.result _ _ (λ j left. (laws.either_after g.S.Store.view g.S.Store.faults g.S.Store.recovers
    g.S.Store.is_shielded (entries_of c.args.notes.now) c.args.store c.is_unmade.new.store j.store
    c.is_unmade.ensures.quiet
    (λ h. (rw c.in-Ok-true.field-0-test at (c.in-Ok-true.ensures.found h)).0) left).crash) c.make.ensures.left

pub returns-in-Ok-true-clause-unharmed : goal.returns-in-Ok-true-clause-unharmed
returns-in-Ok-true-clause-unharmed g c =
    IfErr-weaker c.make.result _ _ (λ e left. (laws.either_after g.S.Store.view g.S.Store.faults g.S.Store.recovers
    g.S.Store.is_shielded (entries_of c.args.notes.now) c.args.store c.is_unmade.new.store e.1
    c.is_unmade.ensures.quiet
    (λ h. (rw c.in-Ok-true.field-0-test at (c.in-Ok-true.ensures.found h)).0) left).crash) c.make.ensures.left_err

pub returns-in-Ok-true-clause-on : goal.returns-in-Ok-true-clause-on
returns-in-Ok-true-clause-on g c =
    IfOk-weaker c.make.result _ _ (λ j left. (laws.either_after g.S.Store.view g.S.Store.faults g.S.Store.recovers
    g.S.Store.is_shielded (entries_of c.args.notes.now) c.args.store c.is_unmade.new.store j.store
    c.is_unmade.ensures.quiet
    (λ h. (rw c.in-Ok-true.field-0-test at (c.in-Ok-true.ensures.found h)).0) left).on) c.make.ensures.left

pub returns-in-Ok-true-clause-on_err : goal.returns-in-Ok-true-clause-on_err
returns-in-Ok-true-clause-on_err g c =
    IfErr-weaker c.make.result _ _ (λ e left. (laws.either_after g.S.Store.view g.S.Store.faults g.S.Store.recovers
    g.S.Store.is_shielded (entries_of c.args.notes.now) c.args.store c.is_unmade.new.store e.1
    c.is_unmade.ensures.quiet
    (λ h. (rw c.in-Ok-true.field-0-test at (c.in-Ok-true.ensures.found h)).0) left).on) c.make.ensures.left_err

pub returns-in-Ok-true-clause-accepts : goal.returns-in-Ok-true-clause-accepts
returns-in-Ok-true-clause-accepts g c =
    let was = g.S.Store.faults c.args.store in
    let mid = g.S.Store.faults c.is_unmade.new.store in
    IfErr-weaker c.make.result _ _ (λ e h clean either.
    let wide : MoreFaults mid (g.S.Store.faults e.1) → MoreFaults was (g.S.Store.faults e.1) =
    λ f. omega (arith, c.is_unmade.ensures.quiet.counts) in
    let why = h clean in
    laws.making_fails (MoreFaults mid (g.S.Store.faults e.1)) (MoreFaults was (g.S.Store.faults e.1)) _ e.0 why.0 wide why.1
    why.2) c.make.ensures.cause

pub returns-in-Ok-true-clause-cause : goal.returns-in-Ok-true-clause-cause
returns-in-Ok-true-clause-cause g c =
    let was = g.S.Store.faults c.args.store in
    let mid = g.S.Store.faults c.is_unmade.new.store in
    IfErr-weaker c.make.result _ _ (λ e h clean.
    let wide : MoreFaults mid (g.S.Store.faults e.1) → MoreFaults was (g.S.Store.faults e.1) =
    λ f. omega (arith, c.is_unmade.ensures.quiet.counts) in
    let why = h clean in
    inr (
      why.0,
      why.1,
      cause_then (MoreFaults mid (g.S.Store.faults e.1)) (MoreFaults was (g.S.Store.faults e.1))
          ⊥ ⊥ _ _ why.0 wide (λ x. x) (λ x. x) why.2,
    )) c.make.ensures.cause

-- ---- the store that is there is opened

pub returns-in-Ok-false-clause-found : goal.returns-in-Ok-false-clause-found
returns-in-Ok-false-clause-found g c =
    let was = g.S.Store.view c.args.store in
    let mid = g.S.Store.view c.is_unmade.new.store in
    ok_both c.open.result _ _ _ (λ j quiet h clean.
    let midway : IsClean mid = omega (arith, quiet.clean) in
    let told = rw c.in-Ok-false.field-0-test at (c.in-Ok-false.ensures.found midway) in
    let notes = entries_of c.args.notes.now in
    let now = g.S.Store.view j.store in
    let found = h clean in
    inr (
      laws.finds_before was mid told.0 notes now found.0,
      laws.noted_before was mid told.0 notes now found.0 found.1,
    ))
    c.open.ensures.quiet c.open.ensures.found

pub returns-in-Ok-false-clause-taken : goal.returns-in-Ok-false-clause-taken
returns-in-Ok-false-clause-taken g c =
    IfOk-weaker c.open.result _ _ (λ j h clean.
    subst (λ es. LeadsTo g.K.ChangeSink.takes c.args.sink.now es c.open.new.sink) (sym (h clean).0.stored) (h clean).2)
    c.open.ensures.found

pub returns-in-Ok-false-clause-crash : goal.returns-in-Ok-false-clause-crash
returns-in-Ok-false-clause-crash g c =
    IfOk-weaker c.open.result _ _ (λ j quiet db h. inr (c.is_unmade.ensures.quiet.outcomes db (quiet.outcomes db h)))
    c.open.ensures.quiet

pub returns-in-Ok-false-clause-unharmed : goal.returns-in-Ok-false-clause-unharmed
returns-in-Ok-false-clause-unharmed g c =
    IfErr-weaker c.open.result _ _ (λ e quiet db h. inr (c.is_unmade.ensures.quiet.outcomes db (quiet.outcomes db h)))
    c.open.ensures.unharmed

pub returns-in-Ok-false-clause-on : goal.returns-in-Ok-false-clause-on
returns-in-Ok-false-clause-on g c =
    IfOk-weaker c.open.result _ _ (λ j quiet. laws.goes_on g.S.Store.view g.S.Store.faults g.S.Store.recovers
    g.S.Store.is_shielded c.args.store c.is_unmade.new.store j.store c.is_unmade.ensures.quiet quiet)
    c.open.ensures.quiet

pub returns-in-Ok-false-clause-on_err : goal.returns-in-Ok-false-clause-on_err
returns-in-Ok-false-clause-on_err g c =
    IfErr-weaker c.open.result _ _ (λ e quiet. laws.goes_on g.S.Store.view g.S.Store.faults g.S.Store.recovers
    g.S.Store.is_shielded c.args.store c.is_unmade.new.store e.1 c.is_unmade.ensures.quiet quiet)
    c.open.ensures.unharmed

pub returns-in-Ok-false-clause-accepts : goal.returns-in-Ok-false-clause-accepts
returns-in-Ok-false-clause-accepts g c =
    let was = c.args.store in
    let mid = c.is_unmade.new.store in
    err_both c.open.result _ _ _ (λ e quiet h clean either.
    let midway : IsClean (g.S.Store.view mid) = omega (arith, quiet.clean) in
    let told = rw c.in-Ok-false.field-0-test at (c.in-Ok-false.ensures.found midway) in
    laws.opening_fails (g.S.Store.view was) (g.S.Store.view mid) (g.S.Store.faults was) (g.S.Store.faults mid)
    (g.S.Store.faults e.1) (entries_of c.args.notes.now) _ e.0 told c.is_unmade.ensures.quiet.counts quiet.counts
    (c.is_unmade.ensures.quiet.closes midway) (h clean) either) c.open.ensures.unharmed c.open.ensures.cause

pub returns-in-Ok-false-clause-cause : goal.returns-in-Ok-false-clause-cause
returns-in-Ok-false-clause-cause g c =
    let was = c.args.store in
    let mid = c.is_unmade.new.store in
    err_both c.open.result _ _ _ (λ e quiet h clean.
    let midway : IsClean (g.S.Store.view mid) = omega (arith, quiet.clean) in
    let told = rw c.in-Ok-false.field-0-test at (c.in-Ok-false.ensures.found midway) in
    inl (laws.explains_since (g.S.Store.view was) (g.S.Store.view mid) told.0 (entries_of c.args.notes.now)
    (g.S.Store.faults was) (g.S.Store.faults mid) (g.S.Store.faults e.1) e.0 c.is_unmade.ensures.quiet.counts quiet.counts
    (c.is_unmade.ensures.quiet.closes midway) (h clean))) c.open.ensures.unharmed c.open.ensures.cause

-- ---- the store can't be looked at

pub returns-in-Err-clause-cause : goal.returns-in-Err-clause-cause
returns-in-Err-clause-cause g c = λ clean. inl (c.in-Err.ensures.cause clean)

pub returns-in-Err-clause-unharmed : goal.returns-in-Err-clause-unharmed
returns-in-Err-clause-unharmed g c = λ db h. inr (c.is_unmade.ensures.quiet.outcomes db h)

pub returns-in-Err-clause-on_err : goal.returns-in-Err-clause-on_err
returns-in-Err-clause-on_err g c =
    goes_quiet g.S.Store.view g.S.Store.faults g.S.Store.recovers g.S.Store.is_shielded c.args.store
    c.is_unmade.new.store c.is_unmade.ensures.quiet

pub returns-in-Err-clause-accepts : goal.returns-in-Err-clause-accepts
returns-in-Err-clause-accepts g c = λ clean either.
    laws.look_fails (g.S.Store.view c.args.store) (entries_of c.args.notes.now) _ _ c.in-Err.error either
    (c.in-Err.ensures.cause clean)
