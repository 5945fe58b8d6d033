use Rattle.std.proofs.Common.{◌≡◌, ◌^◌, ℕ, false, get_or, length, take}
use Rattle.cube_core.specs.GroupingSet.{is_among}
use Rattle.cube_cells.proofs.cube.bottom_up.kept_masks.Given as goal

abbrev pub invariant-loop-set : goal.invariant-loop-set
invariant-loop-set l = record {
  long : length l.kept.items ≡ 2 ^ l.fn.dimensions;
  each : (mask : ℕ) → get_or l.kept.items mask false ≡ is_among mask (take l.set-index l.sets);
}
