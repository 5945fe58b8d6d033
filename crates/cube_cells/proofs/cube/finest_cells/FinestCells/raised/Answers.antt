use Rattle.std.proofs.Common.{◌<◌}
use Rattle.cube_cells.specs.BottomUp.{cells_of_items}
use Rattle.cube_cells.proofs.Rows.WalkedLaws.{WalkGivesCube-AreToWalk}
use Rattle.cube_cells.proofs.cube.finest_cells.FinestCells.raised.Goals as goal

pub of-requires-clause-walk : goal.of-requires-clause-walk
of-requires-clause-walk g c = λ lifetimes live.
    let masks = rw c.grouping_sets.ensures.value at c.in_ok-kept.ensures in
    let some : 0 < c.self.inside.facts = rw (← c.self.view_is) at c.requires.some in
    rw c.deref.ensures.value (rw (← c.self.view_is)
    (WalkGivesCube-AreToWalk c.self.inside.schema c.self.inside.facts c.self.inside.texts.items
    (cells_of_items c.self.inside.items.items) c.in_ok-kept.kept.items c.self.invariant.0 some masks))
