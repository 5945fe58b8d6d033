use Rattle.std.proofs.Common.{ap, ◌∙◌, arith}
use Rattle.std.proofs.lemmas.Result.{IfOk-weaker, IfErr-weaker}
use Rattle.sqlite_trees.specs.View.{View, IsClean}
use Rattle.cube_store.proofs.MakeLaws as laws
use Rattle.cube_store.proofs.OpenLaws as opening
use Rattle.cube_store.proofs.making.are_empty.Goals as goal

pub is_empty-requires-2 : goal.is_empty-requires-2
is_empty-requires-2 g c = λ midway.
    let back : IsClean (g.S.Store.view c.args.store.now) = omega (arith, c.is_empty.ensures.quiet.clean) in
    ap (λ (v : View). v.shape 1) (c.in_ok-is_empty.ensures.found midway).reads ∙ c.requires.feeds back

pub returns-then-not-branch-clause-found : goal.returns-then-not-branch-clause-found
returns-then-not-branch-clause-found g c = λ clean.
    laws.first_told (g.S.Store.view c.args.store.now) (g.S.Store.view c.is_empty.new.store)
    (rw c.if-not-branch.true at (c.in_ok-is_empty.ensures.found clean))

pub returns-clause-found : goal.returns-clause-found
returns-clause-found g c =
    let old = g.S.Store.view c.args.store.now in
    let mid = g.S.Store.view c.is_empty.new.store in
    let now = g.S.Store.view c.is_empty-2.new.store in
    IfOk-weaker c.is_empty-2.result _ _ (λ b h clean.
    let midway : IsClean mid = omega (arith, c.is_empty-2.ensures.quiet.clean) in
    laws.both_told old mid now b (rw c.if-not-branch.false at (c.in_ok-is_empty.ensures.found midway)) (h clean))
    c.is_empty-2.ensures.found

pub returns-clause-cause : goal.returns-clause-cause
returns-clause-cause g c = λ clean.
    let old = c.args.store.now in
    let mid = c.is_empty.new.store in
    let now = c.is_empty-2.new.store in
    let midway : IsClean (g.S.Store.view mid) = omega (arith, c.is_empty-2.ensures.quiet.clean) in
    IfErr-weaker c.is_empty-2.result _ _ (λ e h. opening.cause_since (g.S.Store.view old) (g.S.Store.view mid)
    (g.S.Store.faults old) (g.S.Store.faults mid) (g.S.Store.faults now) e
    c.is_empty.ensures.quiet.counts (c.in_ok-is_empty.ensures.found midway).reads h) (c.is_empty-2.ensures.cause clean)
