use Rattle.std.proofs.Common.{◌≡◌, length}
use Rattle.cube_cells.specs.Rows.{AreWantsMatched}
use Rattle.cube_cells.proofs.cube.queries.wants_of.Given as goal

abbrev pub invariant-loop-place : goal.invariant-loop-place
invariant-loop-place g l = record {
  long : length l.wants.items ≡ l.place;
  wants : AreWantsMatched (g.T.FindsCodes.dictionaries l.cube) l.wanted l.wants.items;
}
