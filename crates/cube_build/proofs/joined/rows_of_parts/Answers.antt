use Rattle.std.proofs.Common.{rules}
use Rattle.cube_build.proofs.WholeLaws.{parts-all, parts-alone, parts-first, parts-more}
use Rattle.cube_build.proofs.joined.rows_of_parts.Goals as goal

pub returns-then-parts-eq1 : goal.returns-then-parts-eq1
returns-then-parts-eq1 g c =
    parts-alone g.P.HoldsCube.lattice (g.Q.AsksCube.test c.args.question.now) c.args.parts.now c.index-parts-0.result
    c.held.result.now c.in_ok-rows.rows.items (search rules) (search rules) c.in_ok-rows.ensures

pub loop-part-init : goal.loop-part-init
loop-part-init g c =
    parts-first g.P.HoldsCube.lattice (g.Q.AsksCube.test c.args.question.now) c.args.parts.now c.index-parts-0.result
    c.held.result.now c.in_ok-rows.rows.items (search rules) c.in_ok-rows.ensures

pub loop-part-preserved : goal.loop-part-preserved
loop-part-preserved g c =
    rw c.in_ok-append.ensures.items
    (parts-more g.P.HoldsCube.lattice (g.Q.AsksCube.test c.args.question.now) c.args.parts.now c.loop-part.part
    c.index-parts-part.result c.held-in-loop-part.result.now c.loop-part.rows.items _ (search rules) (search rules)
    c.in_ok-rows_of.ensures c.loop-part.invariant)

pub returns : goal.returns
returns g c =
    parts-all g.P.HoldsCube.lattice (λ rows. rows.items) c.in_key_order.result
    (g.Q.AsksCube.test c.args.question.now) c.args.parts.now c.loop-part.part c.loop-part.rows.items (search rules)
    c.in_key_order.ensures.same c.in_key_order.ensures.order c.loop-part.invariant
