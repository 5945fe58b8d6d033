use Rattle.std.proofs.Common.{◌≡◌}
use Rattle.cube_rings.proofs.lots.LotOutlet.send_end.Given as goal

abbrev pub invariant-loop : goal.invariant-loop
invariant-loop g l = l.self ≡ l.initial.self
