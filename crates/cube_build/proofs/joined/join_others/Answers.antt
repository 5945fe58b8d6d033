use Rattle.std.proofs.Common.{rules, ◌∙◌, ap, sym}
use Rattle.std.proofs.lemmas.Result.{on_ok_weaker}
use Rattle.cube_build.proofs.WholeLaws.{aggregates-at, cells-all, cells-alone, cells-first, cells-more}
use Rattle.cube_build.proofs.joined.join_others.Goals.{In_ok-ordered}
use Rattle.cube_build.proofs.joined.join_others.Goals as goal

pub returns-then-parts-eq1 : goal.returns-then-parts-eq1
returns-then-parts-eq1 g c =
    let first = c.requires.first in
    cells-alone g.P.HoldsCube.lattice c.args.parts.now first.first (g.P.HoldsCube.lattice first.first)
    c.args.cells.now (search rules) (ap g.P.HoldsCube.lattice first.at) first.cells

pub loop-part-init : goal.loop-part-init
loop-part-init g c =
    let first = c.requires.first in
    cells-first g.P.HoldsCube.lattice c.args.parts.now first.first (g.P.HoldsCube.lattice first.first)
    c.args.cells.now (ap g.P.HoldsCube.lattice first.at) first.cells first.aggregates

pub append-requires : goal.append-requires
append-requires g c =
    aggregates-at g.P.HoldsCube.lattice c.requires.parts.schema c.requires.parts.facts c.args.parts.now
    c.loop-part.part c.index-parts-part.result c.held.result.now c.in_ok-ordered.field-0
    c.in_ok-ordered.ensures.aggregates c.requires.parts.are (search rules) (search rules)
    ∙ sym (c.loop-part.invariant.aggregates c.requires.parts.schema c.requires.parts.facts c.requires.parts.are)

pub loop-part-preserved : goal.loop-part-preserved
loop-part-preserved g c =
    cells-more g.P.HoldsCube.lattice c.args.parts.now c.loop-part.part c.index-parts-part.result
    c.held.result.now c.loop-part.cells c.in_ok-ordered.field-0 c.append.new.self (search rules)
    (search rules) c.in_ok-ordered.ensures.cube
    (append-requires g (goal.at.loop-part-preserved g c).In_ok-ordered) c.append.ensures.aggregates
    c.in_ok-append.ensures.cells c.loop-part.invariant

pub returns : goal.returns
returns g c = on_ok_weaker c.sort.result
    (λ order. cells-all g.P.HoldsCube.lattice c.args.parts.now c.loop-part.part c.loop-part.cells c.sort.new.self
    (search rules) c.sort.ensures.aggregates c.sort.ensures.same order c.loop-part.invariant)
    c.sort.ensures.order
