use Rattle.std.proofs.Common.{◌-◌, ◌≡◌, length}
use Rattle.cube_cells.specs.BottomUp.{cells_of_items}
use Rattle.cube_cells.specs.WalkParts.{AreRaisedOver, cells_of_lists}
use Rattle.cube_cells.proofs.cube.walk_parts.raised_lists.Given as goal

abbrev pub invariant-loop-from : goal.invariant-loop-from
invariant-loop-from g l = record {
  long : length l.lists.items ≡ l.from;
  raised : AreRaisedOver l.dimensions (cells_of_items l.items) (cells_of_lists l.lists.items);
}

abbrev pub decreases-loop-from : goal.decreases-loop-from
decreases-loop-from g l = l.dimensions - l.from
