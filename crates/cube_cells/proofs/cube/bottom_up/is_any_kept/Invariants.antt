use Rattle.std.proofs.Common.{◌≡◌, ◌-◌, ◌^◌, length}
use Rattle.cube_cells.proofs.Filling.PruneLaws.{IsLooking}
use Rattle.cube_cells.proofs.cube.bottom_up.is_any_kept.Given as goal

abbrev pub invariant-loop-mask : goal.invariant-loop-mask
invariant-loop-mask l = record {
  step : l.step ≡ 2 ^ l.fn.from;
  looking : IsLooking l.kept l.fn.from l.codes l.mask;
}

abbrev pub decreases-loop-mask : goal.decreases-loop-mask
decreases-loop-mask l = length l.kept - l.mask
