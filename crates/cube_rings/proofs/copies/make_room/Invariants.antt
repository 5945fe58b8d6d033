use Rattle.std.proofs.Common.{◌≡◌}
use Rattle.cube_rings.proofs.copies.make_room.Given as goal

abbrev pub invariant-loop-outlet : goal.invariant-loop-outlet
invariant-loop-outlet l = l.outlets ≡ l.fn.outlets
