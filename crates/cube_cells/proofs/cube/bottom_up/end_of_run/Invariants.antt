use Rattle.std.proofs.Common.{◌≡◌, ◌<◌, ◌≤◌, ◌-◌, ℕ, length, get_or}
use Rattle.cube_cells.specs.BottomUp.{cells_of_items, column_of}
use Rattle.cube_cells.proofs.cube.bottom_up.end_of_run.Given as goal

abbrev pub invariant-loop-end : goal.invariant-loop-end
invariant-loop-end g l = record {
  after : l.start < l.end;
  within : l.end ≤ length l.items;
  first : l.code ≡ get_or (column_of l.from (cells_of_items l.items)) l.start 0;
  same : (k : ℕ) → l.start ≤ k → k < l.end → get_or (column_of l.from (cells_of_items l.items)) k 0 ≡ l.code;
}

abbrev pub decreases-loop-end : goal.decreases-loop-end
decreases-loop-end g l = length l.items - l.end
