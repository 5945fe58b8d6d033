use Rattle.std.proofs.Common.{◌≡◌, rules, subst}
use Rattle.cube_cells.specs.Cube.{Lattice}
use Rattle.cube_build.specs.Joined.{OrdersCells}
use Rattle.cube_build.proofs.joined.ordered_parts.Goals as goal

pub join_others-requires-clause-first : goal.join_others-requires-clause-first
join_others-requires-clause-first g c =
    let is : c.held.result.now ≡ g.P.HoldsCube.lattice c.index-parts-0.result = search rules in
    record {
      first = c.index-parts-0.result;
      at = search rules;
      cells = subst (λ (l : Lattice). OrdersCells l c.in_ok-cells.cells) is c.in_ok-cells.ensures.cube;
      aggregates = rw is at c.in_ok-cells.ensures.aggregates;
    }
