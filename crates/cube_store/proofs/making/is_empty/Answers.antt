use Rattle.std.proofs.Common.{arith}
use Rattle.sqlite_trees.specs.View.{IsClean}
use Rattle.cube_store.proofs.MakeLaws as laws
use Rattle.cube_store.proofs.making.is_empty.Goals as goal

pub returns-clause-found : goal.returns-clause-found
returns-clause-found g c = λ clean.
    let old = g.S.Store.view c.args.store.now in
    let mid = g.S.Store.view c.begin.new.store in
    let midway : IsClean mid = omega (arith, c.step.ensures.quiet.clean) in
    laws.empty_told old mid (g.S.Store.view c.step.new.store) c.args.tree c.step.new.row _
    (c.in_ok-begin.ensures.ok midway) (c.in_ok-begin.ensures.sound midway) (c.in_ok-step.ensures.ok clean)
