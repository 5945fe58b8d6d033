use Rattle.std.proofs.Common.{arith}
use Rattle.cube_merge.proofs.front.row_for_bound.Goals as goal
use Rattle.cube_merge.proofs.front.row_for_bound.Goals.{then-is_some, then-rows-eq0, else-rows-eq0, else-is_some}

pub loop-place-init : goal.loop-place-init
loop-place-init g c = record { inside = omega arith; counted = omega arith }

pub loop-place-preserved : goal.loop-place-preserved
loop-place-preserved g c =
    elim c.if-is_some.branch [
      | then-is_some w ↦ elim w.if-rows-eq0.branch [
        | then-rows-eq0 v ↦ record {
          inside = rw (w.least-is, v.least-is) v.earlier-least.ensures;
          counted = omega (arith, w.rows-is);
        }
        | else-rows-eq0 v ↦ record {
          inside = rw (w.least-is, v.least-is) c.loop-place.invariant.inside;
          counted = omega (arith, w.rows-is);
        }
      ]
      | else-is_some w ↦ record {
        inside = rw w.least-is c.loop-place.invariant.inside;
        counted = omega (arith, w.rows-is);
      }
    ]
