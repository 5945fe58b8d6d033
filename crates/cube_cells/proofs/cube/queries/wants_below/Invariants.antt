use Rattle.std.proofs.Common.{◌≡◌, length}
use Rattle.cube_cells.specs.Rows.{AreWantsBelow}
use Rattle.cube_cells.proofs.cube.queries.wants_below.Given as goal

abbrev pub invariant-loop-place : goal.invariant-loop-place
invariant-loop-place g l = record {
  long : length l.wants.items ≡ l.place;
  wants : AreWantsBelow (g.T.FindsCodes.dictionaries l.cube) l.dim l.coords l.wants.items;
}
