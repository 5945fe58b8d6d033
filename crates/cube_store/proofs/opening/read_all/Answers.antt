use Rattle.std.proofs.Common.{◌≡◌, ◌≤◌, IsTrue, false, refl, sym, ap, ◌∙◌, arith}
use Rattle.std.proofs.lemmas.Result.{err_from_is_err_and, IfOk-weaker, IfErr-weaker}
use Rattle.std.specs.Prelude.{⊤}
use Rattle.sqlite_disk.specs.Disk.{MoreFaults}
use Rattle.sqlite_trees.specs.declared.store.Shape.TheVariants.{Table}
use Rattle.sqlite_trees.specs.View.{View, IsClean}
use Rattle.cube_store.specs.Rows.{entries_of}
use Rattle.cube_store.specs.State.{form_in}
use Rattle.cube_store.proofs.OpenLaws as opening
use Rattle.cube_store.proofs.ReadingLaws as laws
use Rattle.cube_store.proofs.opening.read_all.Goals as goal

pub replay-requires : goal.replay-requires
replay-requires g c = λ midway.
    ap (λ (v : View). v.shape 0) (c.in_ok-compare.ensures.seen midway).reads
    ∙ (c.has_tables.ensures.0 c.if-not-has_tables.false).0

pub returns-clause-fits : goal.returns-clause-fits
returns-clause-fits g c =
    IfOk-weaker c.replay.result _ _ (λ r few. (few, c.has_tables.ensures.0 c.if-not-has_tables.false))
    c.replay.ensures.few

pub returns-clause-read : goal.returns-clause-read
returns-clause-read g c =
    let mid = g.S.Store.view c.compare.new.store in
    IfOk-weaker c.replay.result _ _ (λ r h clean.
    let midway : IsClean mid = omega (arith, c.replay.ensures.quiet.clean) in
    let seen = c.in_ok-compare.ensures.seen midway in (
      laws.replayed_since g.K.ChangeSink.takes (g.S.Store.view c.args.store.now) mid
          (g.S.Store.view c.replay.new.store) r.0 r.1 c.args.sink.now c.replay.new.sink seen.reads (h clean),
      seen.same,
    )) c.replay.ensures.read

pub returns-clause-quiet : goal.returns-clause-quiet
returns-clause-quiet g c =
    laws.quiet_then g.S.Store.view g.S.Store.faults g.S.Store.recovers g.S.Store.is_shielded c.args.store.now
    c.compare.new.store c.replay.new.store c.compare.ensures.quiet c.replay.ensures.quiet

pub returns-in_err-compare-clause-cause : goal.returns-in_err-compare-clause-cause
returns-in_err-compare-clause-cause g c = λ clean.
    let p = err_from_is_err_and c.from_residual.result c.from_residual.ensures.1 in
    let old = c.args.store.now in
    let view = g.S.Store.view old in
    let fault = MoreFaults (g.S.Store.faults old) (g.S.Store.faults c.compare.new.store) in
    rw (p.1, p.2) (opening.explains_then fault fault (IsTrue view.is_broken) (IsTrue view.is_broken)
    (view.is_broken ≡ false) (view.is_broken ≡ false) ⊤ ((view.shape 0 ≡ Table) × (view.shape 1 ≡ Table))
    (form_in view) (form_in view) view.trees view.trees (entries_of c.args.notes.now) _ (λ x. x) (λ x. x) (λ x. x)
    (λ _. tt) (λ _. refl) (λ _. refl)
    (c.in_err-compare.ensures.cause clean))

pub returns-clause-cause : goal.returns-clause-cause
returns-clause-cause g c = λ clean.
    let old = c.args.store.now in
    let mid = c.compare.new.store in
    let now = c.replay.new.store in
    let was = g.S.Store.view old in
    let view = g.S.Store.view mid in
    let midway : IsClean view = omega (arith, c.replay.ensures.quiet.clean) in
    let reads = (c.in_ok-compare.ensures.seen midway).reads in
    let broken : view.is_broken ≡ was.is_broken = ap (λ (v : View). v.is_broken) reads in
    let up : g.S.Store.faults old ≤ g.S.Store.faults mid = c.compare.ensures.quiet.counts in
    let wide : MoreFaults (g.S.Store.faults mid) (g.S.Store.faults now)
    → MoreFaults (g.S.Store.faults old) (g.S.Store.faults now) = λ f. omega arith in
    IfErr-weaker c.replay.result _ _ (λ e h. opening.explains_then
    (MoreFaults (g.S.Store.faults mid) (g.S.Store.faults now))
    (MoreFaults (g.S.Store.faults old) (g.S.Store.faults now)) (IsTrue view.is_broken) (IsTrue was.is_broken)
    (view.is_broken ≡ false) (was.is_broken ≡ false) ⊤ ((was.shape 0 ≡ Table) × (was.shape 1 ≡ Table))
    (form_in view) (form_in was) view.trees was.trees (entries_of c.args.notes.now) e wide (λ b. sym broken ∙ b)
    (λ b. sym broken ∙ b) (λ _. tt)
    (λ _. ap (λ (v : View). v.trees) reads) (λ _. ap (λ (v : View). form_in v) reads) (h (entries_of c.args.notes.now))) (c.replay.ensures.cause clean)
