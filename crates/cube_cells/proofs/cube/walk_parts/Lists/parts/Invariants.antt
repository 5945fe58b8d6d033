use Rattle.std.proofs.Common.{◌∷◌, ◌≤◌, [], get_or, length}
use Rattle.cube_cells.specs.BottomUp.{cells_of_items}
use Rattle.cube_cells.specs.WalkParts.{cells_of_lists}
use Rattle.cube_cells.proofs.Filling.PartLaws.{IsGoing}
use Rattle.cube_cells.proofs.cube.walk_parts.Lists.parts.Given as goal

abbrev pub invariant-loop-from : goal.invariant-loop-from
invariant-loop-from g l = record {
  within : l.from ≤ length l.self.raised.now;
  going : IsGoing l.self.kept.now l.self.dimensions (cells_of_items l.self.items.now) l.from
      (get_or (cells_of_items l.self.items.now ∷ cells_of_lists l.self.raised.now) l.from []) l.parts.items;
}
