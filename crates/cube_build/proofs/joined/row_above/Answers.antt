use Rattle.std.proofs.Common.{◌≡◌, rules}
use Rattle.std.specs.Prelude.{None}
use Rattle.cube_core.specs.Query.{rolled_up}
use Rattle.cube_build.proofs.WholeLaws.{no-row, no-row-more, row-found}
use Rattle.cube_build.proofs.joined.row_above.Goals as goal

pub returns-in-Some : goal.returns-in-Some
returns-in-Some g c =
    row-found g.P.HoldsCube.lattice c.args.parts.now c.loop-part.part c.index-parts-part.result c.held.result.now
    (rolled_up c.args.dim c.args.key.now) c.in-Some.row (search rules) (search rules)
    (rw c.in-Some.is at c.in_ok-row.ensures.cube)

pub loop-part-preserved : goal.loop-part-preserved
loop-part-preserved g c =
    let none : c.in_ok-row.field-0 ≡ None = search rules in
    no-row-more g.P.HoldsCube.lattice c.args.parts.now c.loop-part.part c.index-parts-part.result c.held.result.now
    (rolled_up c.args.dim c.args.key.now) (search rules) (search rules) (rw none at c.in_ok-row.ensures.cube)
    c.loop-part.invariant

pub returns : goal.returns
returns g c = no-row g.P.HoldsCube.lattice c.args.parts.now c.loop-part.part (rolled_up c.args.dim c.args.key.now)
    (search rules) c.loop-part.invariant
