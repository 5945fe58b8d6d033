use Rattle.std.proofs.Common.{◌≡◌}
use Rattle.cube_rings.proofs.lots.wait_for_place.Given as goal

abbrev pub invariant-loop : goal.invariant-loop
invariant-loop g l = l.outlet ≡ l.initial.outlet
