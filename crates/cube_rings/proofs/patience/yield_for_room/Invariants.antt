use Rattle.std.proofs.Common.{◌≡◌}
use Rattle.cube_rings.proofs.patience.yield_for_room.Given as goal

abbrev pub invariant-loop : goal.invariant-loop
invariant-loop l = l.outlet ≡ l.initial.outlet
