use Rattle.std.proofs.Common.{ap, arith, true≢false, sym, ◌∙◌}
use Rattle.std.proofs.lemmas.Result.{IfOk-weaker, IfErr-weaker}
use Rattle.sqlite_trees.specs.Objects.{catalog_tree}
use Rattle.sqlite_trees.specs.View.{IsClean}
use Rattle.cube_store.proofs.MakeLaws as laws
use Rattle.cube_store.proofs.making.is_unmade.Goals as goal

pub returns-then-not-has_tables-clause-found : goal.returns-then-not-has_tables-clause-found
returns-then-not-has_tables-clause-found g c = λ clean.
    laws.no_tables_told (g.S.Store.view c.args.store.now) (g.S.Store.view c.rollback.new.self)
    c.rollback.ensures.undone (g.met.S.Store.broken_if_shut c.rollback.new.self) clean
    (λ have. true≢false (sym (c.has_tables.ensures.1 have) ∙ c.if-not-has_tables.true))

pub returns-clause-found : goal.returns-clause-found
returns-clause-found g c =
    let mid = c.rollback.new.self in
    IfOk-weaker c.are_empty.result _ _ (λ b h clean.
    let midway : IsClean (g.S.Store.view mid) = omega (arith, c.are_empty.ensures.quiet.clean) in
    laws.unmade_told (g.S.Store.view c.args.store.now) (g.S.Store.view mid) c.rollback.ensures.undone
    (g.met.S.Store.broken_if_shut mid) midway (g.S.Store.view c.are_empty.new.store) b
    (c.has_tables.ensures.0 c.if-not-has_tables.false)
    (λ s e. g.met.S.Store.unaltered mid s (ap (λ t. t catalog_tree) e)) (h clean)) c.are_empty.ensures.found

pub returns-clause-cause : goal.returns-clause-cause
returns-clause-cause g c = λ clean.
    let was = c.args.store.now in
    let mid = c.rollback.new.self in
    let now = c.are_empty.new.store in
    let midway : IsClean (g.S.Store.view mid) = omega (arith, c.are_empty.ensures.quiet.clean) in
    IfErr-weaker c.are_empty.result _ _ (λ e h. laws.cause_before (g.S.Store.view was) (g.S.Store.view mid)
    (g.S.Store.faults was) (g.S.Store.faults mid) (g.S.Store.faults now) e c.rollback.ensures.undone
    (g.met.S.Store.broken_if_shut mid) c.rollback.ensures.quiet.counts c.are_empty.ensures.quiet.counts
    (c.rollback.ensures.quiet.closes midway) h) (c.are_empty.ensures.cause clean)
